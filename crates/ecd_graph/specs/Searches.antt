-- A depth-first search that completes strongly connected components, each after those that it leads to: what is known at each moment.
use Rattle.std.specs.Prelude.{◌≡◌, ◌≤◌, ◌<◌, ◌⊎◌, ◌+◌, ◌*◌, ◌++◌, ℕ, suc, List, [], ◌∷◌, length, get_or, take, slice_get, slice_set, Some}
use Rattle.ecd_graph.specs.declared.edge.Edge.{Edge}
use Rattle.ecd_graph.specs.declared.search.Mark.{Mark}
use Rattle.ecd_graph.specs.declared.search.Mark.TheVariants.{Unseen, Open, Done}
use Rattle.ecd_graph.specs.declared.search.Search.{Search}
use Rattle.ecd_graph.specs.Graphs.{Reaches, AreAmong}
use Rattle.ecd_graph.specs.Chains.{IsFrom, ArePrevious}

abbrev pub mark : List Mark → ℕ → Mark
mark marks v = get_or marks v Unseen

abbrev pub slot : List ℕ → ℕ → ℕ
slot xs i = get_or xs i 0

-- no component begins behind the one place, up to the other
abbrev pub NoneBegins : List ℕ → ℕ → ℕ → Type 0
NoneBegins roots i j = (k : ℕ) → k < length roots → i < slot roots k → j < slot roots k

-- each component that begins no later than the one place begins no later than the other
abbrev pub BeginNoLater : List ℕ → ℕ → ℕ → Type 0
BeginNoLater roots i j = (k : ℕ) → k < length roots → slot roots k ≤ i → slot roots k ≤ j

-- the node is done, or is pending and not before the component of the place
abbrev pub IsBehind : List Mark → List ℕ → ℕ → ℕ → Type 0
IsBehind marks roots i w = ((d : ℕ) × (mark marks w ≡ Done d)) ⊎ ((j : ℕ) × (mark marks w ≡ Open j) × BeginNoLater roots i j)

-- the node stands on the path
abbrev pub IsOn : List ℕ → ℕ → Type 0
IsOn path v = (p : ℕ) × (p < length path) × (slot path p ≡ v)

pub record Searched (edges : List Edge) (marks : List Mark) (cursors pending roots path : List ℕ) (count : ℕ) : Type 0 where
  pub pointed : length cursors ≡ length marks
  -- the open nodes: earlier ones reach later ones, and those of one component each other
  pub placed : (i : ℕ) → i < length pending → mark marks (slot pending i) ≡ Open i
  pub stands : (v i : ℕ) → mark marks v ≡ Open i → (i < length pending) × (slot pending i ≡ v)
  pub down : (i j : ℕ) → i ≤ j → j < length pending → Reaches edges (slot pending i) (slot pending j)
  pub up : (i j : ℕ) → i ≤ j → j < length pending → NoneBegins roots i j → Reaches edges (slot pending j) (slot pending i)
  -- where the components of pending nodes begin
  pub ascends : (a b : ℕ) → a < b → b < length roots → slot roots a < slot roots b
  pub begins : 0 < length pending → (0 < length roots) × (slot roots 0 ≡ 0)
  pub rooted : (k : ℕ) → k < length roots → (p : ℕ) × (p < length path) × (mark marks (slot path p) ≡ Open (slot roots k))
  -- the path is of pending nodes, each behind the one before it
  pub goes : (p : ℕ) → p < length path → (i : ℕ) × (mark marks (slot path p) ≡ Open i)
  pub climbs : (a b i j : ℕ) → a < b → b < length path → mark marks (slot path a) ≡ Open i → mark marks (slot path b) ≡ Open j → i < j
  -- the edges that were followed
  pub spent : (v i : ℕ) → mark marks v ≡ Open i → IsOn path v ⊎ (slot cursors v ≡ 0)
  pub fresh : (v e : ℕ) → v < length marks → mark marks v ≡ Unseen → IsFrom edges e v → e < slot cursors v
  pub leads : (v e : ℕ) → slot cursors v ≡ suc e → IsFrom edges e v
  pub followed : (v i e : ℕ) (x : Edge) → mark marks v ≡ Open i → slice_get edges e ≡ Some x → x.from ≡ v → slot cursors v ≤ e → IsBehind marks roots i x.to
  -- the nodes that are done
  pub numbered : (v c : ℕ) → mark marks v ≡ Done c → c < count
  pub closed : (e c : ℕ) (x : Edge) → slice_get edges e ≡ Some x → mark marks x.from ≡ Done c → (d : ℕ) × (mark marks x.to ≡ Done d) × (d ≤ c)
  pub together : (v w c : ℕ) → mark marks v ≡ Done c → mark marks w ≡ Done c → Reaches edges v w

-- the graph of a search
pub record IsSound (s : Search) : Type 0 where
  pub among : AreAmong (length s.marks.items) s.edges.now
  pub previous : ArePrevious s.edges.now s.previous.items
  pub each : length s.previous.items ≡ length s.edges.now

abbrev pub IsHeld : Search → Type 0
IsHeld s = Searched s.edges.now s.marks.items s.cursors.items s.pending.items s.roots.items s.path.items s.count

-- the graph stays, and no node is unseen again
pub record Stays (old new : Search) : Type 0 where
  pub edges : new.edges.now ≡ old.edges.now
  pub previous : new.previous.items ≡ old.previous.items
  pub nodes : length new.marks.items ≡ length old.marks.items
  pub seen : (v : ℕ) → mark new.marks.items v ≡ Unseen → mark old.marks.items v ≡ Unseen

-- a node is opened, as the last of the path
pub record IsEntered (node : ℕ) (old new : Search) : Type 0 where
  pub marks : new.marks.items ≡ slice_set old.marks.items node (Open (length old.pending.items))
  pub cursors : new.cursors.items ≡ old.cursors.items
  pub pending : new.pending.items ≡ old.pending.items ++ node ∷ []
  pub roots : new.roots.items ≡ old.roots.items ++ length old.pending.items ∷ []
  pub path : new.path.items ≡ old.path.items ++ node ∷ []
  pub count : new.count ≡ old.count

-- how much is left to do
abbrev pub total : List ℕ → ℕ
total [] = 0
total (x ∷ xs) = x + total xs

abbrev pub work : Search → ℕ
work s = 2 * total s.cursors.items + length s.path.items

-- an edge leads from the last node of the path to the target
pub record Leads (s : Search) (target : ℕ) : Type 0 where
  pub last : ℕ
  pub place : ℕ
  pub number : ℕ
  pub edge : Edge
  pub size : suc last ≡ length s.path.items
  pub at_top : mark s.marks.items (slot s.path.items last) ≡ Open place
  pub stands : slice_get s.edges.now number ≡ Some edge
  pub from : edge.from ≡ slot s.path.items last
  pub to : edge.to ≡ target

-- the target is the open node at the place
pub record LeadsBack (s : Search) (place : ℕ) : Type 0 where
  pub target : ℕ
  pub leads : Leads s target
  pub open_there : mark s.marks.items target ≡ Open place

-- no component begins behind the place any more
pub record IsJoined (place : ℕ) (old new : Search) : Type 0 where
  pub edges : new.edges.now ≡ old.edges.now
  pub previous : new.previous.items ≡ old.previous.items
  pub marks : new.marks.items ≡ old.marks.items
  pub cursors : new.cursors.items ≡ old.cursors.items
  pub pending : new.pending.items ≡ old.pending.items
  pub path : new.path.items ≡ old.path.items
  pub count : new.count ≡ old.count
  pub begun : (k : ℕ) → k < length new.roots.items → slot new.roots.items k ≤ place

-- the target was met from the node: the node is where it was, and the target is not before its component
pub record IsMet (node target : ℕ) (old new : Search) : Type 0 where
  pub cursors : new.cursors.items ≡ old.cursors.items
  pub path : length new.path.items ≤ length old.path.items + 1
  pub place : ℕ
  pub is_open : mark new.marks.items node ≡ Open place
  pub on : IsOn new.path.items node
  pub behind : IsBehind new.marks.items new.roots.items place target

-- the node is the last of the path
pub record IsTop (s : Search) (node : ℕ) : Type 0 where
  pub last : ℕ
  pub size : suc last ≡ length s.path.items
  pub is : slot s.path.items last ≡ node

-- the open nodes from a place on have a number, and the others are as they were
pub record Numbers (old new : List Mark) (from number : ℕ) : Type 0 where
  pub done : (w j : ℕ) → mark old w ≡ Open j → from ≤ j → mark new w ≡ Done number
  pub kept : (w : ℕ) → ((j : ℕ) → mark old w ≡ Open j → j < from) → mark new w ≡ mark old w

-- the open nodes from a place on are numbered, and open no more
pub record IsNumbered (place : ℕ) (old new : Search) : Type 0 where
  pub edges : new.edges.now ≡ old.edges.now
  pub previous : new.previous.items ≡ old.previous.items
  pub nodes : length new.marks.items ≡ length old.marks.items
  pub cursors : new.cursors.items ≡ old.cursors.items
  pub pending : new.pending.items ≡ take place old.pending.items
  pub roots : new.roots.items ≡ old.roots.items
  pub path : new.path.items ≡ old.path.items
  pub count : new.count ≡ old.count
  pub numbers : Numbers old.marks.items new.marks.items place old.count

-- every node is done, and a node's edges lead to no greater number
pub record IsComplete (s : Search) : Type 0 where
  pub every : (v : ℕ) → v < length s.marks.items → (c : ℕ) × (mark s.marks.items v ≡ Done c)
  pub closed : (e c : ℕ) (x : Edge) → slice_get s.edges.now e ≡ Some x → mark s.marks.items x.from ≡ Done c → (d : ℕ) × (mark s.marks.items x.to ≡ Done d) × (d ≤ c)
  pub together : (v w c : ℕ) → mark s.marks.items v ≡ Done c → mark s.marks.items w ≡ Done c → Reaches s.edges.now v w

-- the numbers of nodes that are done
pub record AreNumbersOf (marks : List Mark) (numbers : List ℕ) : Type 0 where
  pub each : length numbers ≡ length marks
  pub is : (v : ℕ) → v < length marks → mark marks v ≡ Done (slot numbers v)
