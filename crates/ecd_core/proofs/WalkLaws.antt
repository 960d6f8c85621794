-- The laws of the walk: a node's own nodes stand behind it, and nesting is no deeper than nodes are many.
use Rattle.std.proofs.Common.{◌≡◌, ℕ, zero, suc, ◌+◌, ◌≤◌, max, List, [], ◌∷◌, ◌++◌, length, take, drop, slice_get, Some, refl, ap, sym, ◌∙◌, subst, arith, append_assoc, length-append}
use Rattle.ecd_core.specs.declared.shape.Kind.{Kind}
use Rattle.ecd_core.specs.declared.shape.Shape.{Shape}
use Rattle.ecd_core.specs.declared.shape.Part.{Part}
use Rattle.ecd_core.specs.declared.shape.Way.{Way}
use Rattle.ecd_core.specs.declared.shape.MapEntry.{MapEntry}
use Rattle.ecd_core.specs.declared.shape.Pick.{out-Pick}
use Rattle.ecd_core.specs.declared.shape.MapWay.{MapWay}
use Rattle.ecd_core.specs.Lists.{Each}
use Rattle.ecd_core.specs.Nodes.{Node, ShapeNode, PartNode, WayNode, EntryNode, MapWayNode, inside, inside_part, inside_entry, nodes, nesting_in, nesting_in_part, nesting_in_entry, nesting}
use Rattle.ecd_core.specs.Walks.{all_of, part_nodes, way_nodes, entry_nodes, map_way_nodes, walk, greatest, StandTogether, NestNoDeeper}
use Rattle.ecd_core.proofs.Layers.{Cases, kind_ind}
use Rattle.ecd_core.proofs.WalkLayers as w

-- each node of the list stands before all that lie inside it
abbrev Closed : List Node → Type 0
Closed [] = Unit {0}
Closed (node ∷ others) = ((rest : List Node) × (node ∷ others ≡ walk node ++ rest)) × Closed others

closed-append : (xs ys : List Node) → Closed xs → Closed ys → Closed (xs ++ ys)
closed-append [] ys a b = b
closed-append (x ∷ xs) ys a b = ((a.0.0 ++ ys, ap (λ (zs : List Node). zs ++ ys) a.0.1 ∙ append_assoc (walk x) a.0.0 ys), closed-append xs ys a.1 b)

closed-all : {A : Type 0} (f : A → List Node) (xs : List A) → Each (λ x. Closed (f x)) xs → Closed (all_of f xs)
closed-all f [] all = tt
closed-all f (x ∷ xs) all = closed-append (f x) (all_of f xs) all.0 (closed-all f xs all.1)

-- a node over a closed list is closed
closed-node : (node : Node) (under : List Node) → walk node ≡ node ∷ under → Closed under → Closed (node ∷ under)
closed-node node under e a = (([], sym e ∙ sym (append-nil' (walk node))), a)
  where
    append-nil' : (xs : List Node) → xs ++ [] ≡ xs
    append-nil' [] = refl
    append-nil' (x ∷ xs) = ap (λ (ys : List Node). x ∷ ys) (append-nil' xs)

each-closed : {A : Type 0} (P Q : A → Type 0) → ((x : A) → P x → Q x) → (xs : List A) → Each P xs → Each Q xs
each-closed P Q f [] all = tt
each-closed P Q f (x ∷ xs) all = (f x all.0, each-closed P Q f xs all.1)

abbrev ClosedKind : Kind → Type 0
ClosedKind kind = Closed (inside kind)

abbrev ClosedPart : Part → Type 0
ClosedPart part = Closed (inside_part part)

abbrev ClosedEntry : MapEntry → Type 0
ClosedEntry entry = Closed (inside_entry entry)

closed-shape : (s : Shape) → ClosedKind s.kind → Closed (nodes s)
closed-shape s a = closed-node (ShapeNode s) (inside s.kind) refl a

closed-parts : (parts : List Part) → Each ClosedPart parts → Closed (all_of part_nodes parts)
closed-parts parts all = closed-all part_nodes parts (each-closed ClosedPart (λ part. Closed (part_nodes part)) (λ part a. closed-node (PartNode part) (inside_part part) refl a) parts all)

closed-entries : (entries : List MapEntry) → Each ClosedEntry entries → Closed (all_of entry_nodes entries)
closed-entries entries all =
    closed-all entry_nodes entries (each-closed ClosedEntry (λ entry. Closed (entry_nodes entry)) (λ entry a. closed-node (EntryNode entry) (inside_entry entry) refl a) entries all)

closed-ways : (ways : List Way) → Each (λ (way : Way). Each ClosedPart way.body.parts) ways → Closed (all_of way_nodes ways)
closed-ways ways all =
    closed-all way_nodes ways (each-closed (λ (way : Way). Each ClosedPart way.body.parts) (λ way. Closed (way_nodes way))
    (λ way a. closed-node (WayNode way) (all_of part_nodes way.body.parts) refl (closed-parts way.body.parts a)) ways all)

closed-map_ways : (ways : List MapWay) → Each (λ (way : MapWay). Each ClosedEntry way.entries) ways → Closed (all_of map_way_nodes ways)
closed-map_ways ways all =
    closed-all map_way_nodes ways (each-closed (λ (way : MapWay). Each ClosedEntry way.entries) (λ way. Closed (map_way_nodes way))
    (λ way a. closed-node (MapWayNode way) (all_of entry_nodes way.entries) refl (closed-entries way.entries a)) ways all)

none : Closed []
none = tt

closed-cases : Cases ClosedKind ClosedPart ClosedEntry
unfolding inside
closed-cases = record {
  uint = λ lo hi. tt;
  nint = λ lo hi. tt;
  bytes = λ lo hi. tt;
  text = λ lo hi. tt;
  bytes_is = λ bytes. tt;
  text_is = λ bytes. tt;
  simple = λ n. tt;
  tag = λ n s a. subst Closed (sym (w.inside-Tag n s)) (closed-shape s a);
  any_tag = λ s a. subst Closed (sym (w.inside-AnyTag s)) (closed-shape s a);
  any = λ depth. tt;
  any_of = λ major depth. tt;
  cbor = λ s a. subst Closed (sym (w.inside-Cbor s)) (closed-shape s a);
  choice = λ ss all. subst Closed (sym (w.inside-Choice ss)) (closed-all nodes ss (each-closed (λ (s : Shape). ClosedKind s.kind) (λ s. Closed (nodes s)) closed-shape ss all));
  array = λ g all. subst Closed (sym (w.inside-Array g)) (closed-parts g.parts all);
  pairs = λ entries all. subst Closed (sym (w.inside-Map entries)) (closed-entries entries all);
  one = λ s a. subst Closed (sym (w.inside-One s)) (closed-shape s a);
  opt = λ at g all. subst Closed (sym (w.inside-Opt at g)) (closed-parts g.parts all);
  many = λ at lo hi g all. subst Closed (sym (w.inside-Many at lo hi g)) (closed-parts g.parts all);
  alt = λ at ways all. subst Closed (sym (w.inside-Alt at ways)) (closed-ways ways all);
  field = λ f a b. subst Closed (sym (w.inside-Field f)) (closed-append (nodes f.key) (nodes f.value) (closed-shape f.key a) (closed-shape f.value b));
  pick = λ pick all. subst Closed (sym (w.inside-Pick pick)) (closed-map_ways (out-Pick pick).ways all);
  table = λ t a b. subst Closed (sym (w.inside-Table t)) (closed-append (nodes t.key) (nodes t.value) (closed-shape t.key a) (closed-shape t.value b));
}

take-front : {A : Type 0} (xs ys : List A) → take (length xs) (xs ++ ys) ≡ xs
take-front [] ys = refl
take-front (x ∷ xs) ys = ap (λ zs. x ∷ zs) (take-front xs ys)

together : (list : List Node) → Closed list → (number : ℕ) (node : Node) → slice_get list number ≡ Some node → take (length (walk node)) (drop number list) ≡ walk node
together [] a number node e = absurd cc
together (x ∷ xs) a zero node e =
    let same : x ≡ node = cc in
    subst (λ (y : Node). take (length (walk y)) (x ∷ xs) ≡ walk y) same (ap (take (length (walk x))) a.0.1 ∙ take-front (walk x) a.0.0)
together (x ∷ xs) a (suc number) node e = together xs a.1 number node e

pub stand_together : StandTogether
stand_together shape number node e = together (nodes shape) (closed-shape shape (kind_ind ClosedKind ClosedPart ClosedEntry closed-cases shape.kind)) number node e

-- ---- nesting

abbrev NestsIn : ℕ → List Node → Type 0
NestsIn n list = n ≤ length list

greatest-all : {A : Type 0} (f : A → ℕ) (g : A → List Node) (xs : List A) → Each (λ x. NestsIn (f x) (g x)) xs → NestsIn (greatest f xs) (all_of g xs)
greatest-all f g [] all = omega arith
greatest-all f g (x ∷ xs) all = omega (arith, length-append (g x) (all_of g xs), all.0, greatest-all f g xs all.1)

abbrev NestKind : Kind → Type 0
NestKind kind = NestsIn (nesting_in kind) (inside kind)

abbrev NestPart : Part → Type 0
NestPart part = NestsIn (nesting_in_part part) (inside_part part)

abbrev NestEntry : MapEntry → Type 0
NestEntry entry = NestsIn (nesting_in_entry entry) (inside_entry entry)

one-more : (n : ℕ) (node : Node) (list : List Node) → NestsIn n list → NestsIn (n + 1) (node ∷ list)
one-more n node list a = omega arith

nest-parts : (parts : List Part) → Each NestPart parts → NestsIn (greatest w.part_nesting parts) (all_of part_nodes parts)
nest-parts parts all = greatest-all w.part_nesting part_nodes parts (each-closed NestPart (λ part. NestsIn (w.part_nesting part) (part_nodes part)) (λ part a. one-more _ (PartNode part) _ a) parts all)

nest-entries : (entries : List MapEntry) → Each NestEntry entries → NestsIn (greatest w.entry_nesting entries) (all_of entry_nodes entries)
nest-entries entries all =
    greatest-all w.entry_nesting entry_nodes entries (each-closed NestEntry (λ entry. NestsIn (w.entry_nesting entry) (entry_nodes entry)) (λ entry a. one-more _ (EntryNode entry) _ a) entries all)

nest-ways : (ways : List Way) → Each (λ (way : Way). Each NestPart way.body.parts) ways → NestsIn (greatest w.way_nesting ways) (all_of way_nodes ways)
nest-ways ways all =
    greatest-all w.way_nesting way_nodes ways (each-closed (λ (way : Way). Each NestPart way.body.parts) (λ way. NestsIn (w.way_nesting way) (way_nodes way))
    (λ way a. one-more _ (WayNode way) _ (nest-parts way.body.parts a)) ways all)

nest-map_ways : (ways : List MapWay) → Each (λ (way : MapWay). Each NestEntry way.entries) ways → NestsIn (greatest w.map_way_nesting ways) (all_of map_way_nodes ways)
nest-map_ways ways all =
    greatest-all w.map_way_nesting map_way_nodes ways (each-closed (λ (way : MapWay). Each NestEntry way.entries) (λ way. NestsIn (w.map_way_nesting way) (map_way_nodes way))
    (λ way a. one-more _ (MapWayNode way) _ (nest-entries way.entries a)) ways all)

moved : (m n : ℕ) (xs ys : List Node) → m ≡ n → xs ≡ ys → NestsIn n ys → NestsIn m xs
moved m n xs ys e f h = omega (arith, e, ap length f, h)

both-nest : (a b : ℕ) (xs ys : List Node) → NestsIn a xs → NestsIn b ys → NestsIn (max a b) (xs ++ ys)
both-nest a b xs ys p q = omega (arith, length-append xs ys, p, q)

nest-shape : (s : Shape) → NestKind s.kind → NestsIn (nesting s) (nodes s)
nest-shape s a = one-more (nesting_in s.kind) (ShapeNode s) (inside s.kind) a

nest-cases : Cases NestKind NestPart NestEntry
unfolding inside nesting_in
nest-cases = record {
  uint = λ lo hi. omega arith;
  nint = λ lo hi. omega arith;
  bytes = λ lo hi. omega arith;
  text = λ lo hi. omega arith;
  bytes_is = λ bytes. omega arith;
  text_is = λ bytes. omega arith;
  simple = λ n. omega arith;
  tag = λ n s a. moved _ _ _ _ (w.nesting-Tag n s) (w.inside-Tag n s) (nest-shape s a);
  any_tag = λ s a. moved _ _ _ _ (w.nesting-AnyTag s) (w.inside-AnyTag s) (nest-shape s a);
  any = λ depth. omega arith;
  any_of = λ major depth. omega arith;
  cbor = λ s a. moved _ _ _ _ (w.nesting-Cbor s) (w.inside-Cbor s) (nest-shape s a);
  choice = λ ss all. moved _ _ _ _ (w.nesting-Choice ss) (w.inside-Choice ss) (greatest-all nesting nodes ss (each-closed (λ (s : Shape). NestKind s.kind) (λ s. NestsIn (nesting s) (nodes s)) nest-shape ss all));
  array = λ g all. moved _ _ _ _ (w.nesting-Array g) (w.inside-Array g) (nest-parts g.parts all);
  pairs = λ entries all. moved _ _ _ _ (w.nesting-Map entries) (w.inside-Map entries) (nest-entries entries all);
  one = λ s a. moved _ _ _ _ (w.nesting-One s) (w.inside-One s) (nest-shape s a);
  opt = λ at g all. moved _ _ _ _ (w.nesting-Opt at g) (w.inside-Opt at g) (nest-parts g.parts all);
  many = λ at lo hi g all. moved _ _ _ _ (w.nesting-Many at lo hi g) (w.inside-Many at lo hi g) (nest-parts g.parts all);
  alt = λ at ways all. moved _ _ _ _ (w.nesting-Alt at ways) (w.inside-Alt at ways) (nest-ways ways all);
  field = λ f a b. moved _ _ _ _ (w.nesting-Field f) (w.inside-Field f) (both-nest (nesting f.key) (nesting f.value) (nodes f.key) (nodes f.value) (nest-shape f.key a) (nest-shape f.value b));
  pick = λ pick all. moved _ _ _ _ (w.nesting-Pick pick) (w.inside-Pick pick) (nest-map_ways (out-Pick pick).ways all);
  table = λ t a b. moved _ _ _ _ (w.nesting-Table t) (w.inside-Table t) (both-nest (nesting t.key) (nesting t.value) (nodes t.key) (nodes t.value) (nest-shape t.key a) (nest-shape t.value b));
}

pub nest_no_deeper : NestNoDeeper
nest_no_deeper shape = nest-shape shape (kind_ind NestKind NestPart NestEntry nest-cases shape.kind)
