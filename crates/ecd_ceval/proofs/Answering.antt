-- Machines: their cells, and the answers of calls.
use Rattle.std.proofs.Common.{◌≡◌, ℕ, zero, suc, ◌<◌, min, List, [], ◌∷◌, ◌++◌, length, get_or, set, take, map, refl, ap, sym, subst, ◌∙◌, arith, append-nil}
use Rattle.std.specs.Prelude.{Option, Some, None, Result, Ok, Err, slice_get, replicate, true, Vec}
use Rattle.std.specs.Option.{option_map}
use Rattle.std.specs.declared.alloc.Global.{Global}
use Rattle.std.proofs.lemmas.List.{map-set, length-set, length-replicate}
use Rattle.std.proofs.lemmas.Option.{slice_get-map, slice_get-get_or, slice_get_within, get_or_from_slice_get}
use Rattle.std.proofs.Math.Seq.{map-set_same}
use denote.Bor.{Bor}
use Rattle.ecd_cast.specs.declared.tree.CellInfo.{CellInfo}
use Rattle.ecd_cast.specs.declared.tree.StructDecl.{StructDecl}
use Rattle.ecd_cast.specs.declared.value.Cell.{Cell}
use Rattle.ecd_cast.specs.declared.value.Cell.TheVariants.{Unset}
use Rattle.ecd_cast.specs.Memory.{Memory, Bytes, Cells, Event, after, steps_of, first_steps}
use Rattle.ecd_cast.specs.Expressions.{Scopes}
use Rattle.ecd_cast.specs.Fitting.{AreCellsOf, is_place_in, IsWellKinded, AreBlocksOf, AreCellsIn, BlockKind, Fixed, CellsOf}
use Rattle.ecd_cast.specs.declared.tree.CItem.{CItem}
use Rattle.ecd_cast.specs.declared.tree.CItem.TheVariants.{Function as AFunction}
use Rattle.ecd_cast.specs.declared.tree.Function.{Function}
use Rattle.ecd_cast.specs.declared.value.Value.{Value}
use Rattle.ecd_cast.specs.declared.tree.Program.{Program}
use Rattle.ecd_cast.specs.Validity.{structs_of}
use Rattle.ecd_cast.specs.Meaning.{Run, Falls, Returns, Stuck, events_of, called, calls_of}
use Rattle.ecd_ceval.specs.declared.blocks.Held.{Held}
use Rattle.ecd_ceval.specs.declared.blocks.Held.TheVariants.{Fixed as HeldFixed, Output as HeldOutput, Cells as HeldCells}
use Rattle.ecd_ceval.specs.declared.meter.Meter.{Meter}
use Rattle.ecd_ceval.specs.declared.meter.Meter.TheVariants.{Left, Taken}
use Rattle.ecd_ceval.specs.declared.stop.Flow.{Flow}
use Rattle.ecd_ceval.specs.declared.stop.Flow.TheVariants as flow
use Rattle.ecd_ceval.specs.declared.stop.Stop.{Stop}
use Rattle.ecd_ceval.specs.declared.stop.Stop.TheVariants as stop
use Rattle.ecd_ceval.specs.declared.machine.Block.{Block as Given}
use Rattle.ecd_ceval.specs.declared.machine.Block.TheVariants.{Cells as GivenCells}
use Rattle.ecd_ceval.specs.declared.machine.Halt.{Halt}
use Rattle.ecd_ceval.specs.declared.machine.Halt.TheVariants as halt
use Rattle.ecd_ceval.specs.declared.state.State.{State}
use Rattle.ecd_ceval.specs.Blocks.{named, block_of, memory_of, kind_of, lasting_of, IsHeld, AreHeld, AreAllHeld}
use Rattle.ecd_ceval.specs.Writes.{kind_holds, CellHolds, CellHoldsIn, HasCell, HasCellIn}
use Rattle.ecd_ceval.specs.Steps.{Passes}
use Rattle.ecd_ceval.specs.Following.{Follows, Whole, Spends, Wants, IsCut, memory_in}
use Rattle.ecd_ceval.specs.Machines.{unset, unset_of, kind_given, block_given, IsHeldAs, IsNumbered, AreNumbered, Stays, bytes_in, cells_in, set_in, with_cell_at, started, taken_by, IsWithin, Wanted, Answers, Runs, meaning, meaning_of, MaySet, info_in, AreNamed, AreNamedBy, IsSmall}
use Rattle.ecd_ceval.proofs.Following.{Waits}
use Rattle.ecd_ceval.proofs.Running.{waits_called}
use Rattle.ecd_ceval.proofs.Keeping.{at_block, cells_set, kept_by}

-- ---- cells by their numbers

pub named_set : (is : List CellInfo) (cs : List Cell) (at : ℕ) (c : Cell) → named is (set cs at c) ≡ with_cell_at (named is cs) at c
named_set [] cs at c = refl
named_set (i ∷ is) [] at c = refl
named_set (i ∷ is) (d ∷ cs) zero c = refl
named_set (i ∷ is) (d ∷ cs) (suc at) c = ap (λ l. (i.name, d) ∷ l) (named_set is cs at c)

pub named_cells : (is : List CellInfo) (cs : List Cell) → length cs ≡ length is → map (λ w. w.1) (named is cs) ≡ cs
named_cells [] [] h = refl
named_cells [] (c ∷ cs) h = absurd (omega arith)
named_cells (i ∷ is) [] h = absurd (omega arith)
named_cells (i ∷ is) (c ∷ cs) h = ap (λ l. c ∷ l) (named_cells is cs (omega arith))

pub named_unset : (is : List CellInfo) → named is (replicate (length is) Unset) ≡ unset is
named_unset [] = refl
named_unset (i ∷ is) = ap (λ l. (i.name, Unset) ∷ l) (named_unset is)

pub unset_held : (m : Memory) (is : List CellInfo) → AreCellsOf m is (named is (replicate (length is) Unset))
unset_held m [] = tt
unset_held m (i ∷ is) = (refl, refl, unset_held m is)

block_at : (blocks : List Held) (i : ℕ) (d b : Held) → i < length blocks → get_or blocks i d ≡ b → slice_get (memory_of blocks) i ≡ Some (block_of b)
block_at blocks i d b lt e = slice_get-map block_of blocks i ∙ ap (option_map block_of) (slice_get-get_or blocks i d lt ∙ ap Some e)

module _ (blocks : List Held) (i number at : ℕ) (c : Cell) (d : Held) (s : Bor StructDecl) (cells cells' : Vec Cell Global) (lt : i < length blocks) (e : get_or blocks i d ≡ HeldCells number s cells) (h : cells'.items ≡ set cells.items at c) where
  there : slice_get (memory_of blocks) i ≡ Some (Cells (named s.now.cells cells.items))
  there = block_at blocks i d (HeldCells number s cells) lt e

  pub cell_set_memory : memory_of (set blocks i (HeldCells number s cells')) ≡ set_in (slice_get (memory_of blocks) i) at c (memory_of blocks) i
  cell_set_memory =
      map-set block_of blocks i (HeldCells number s cells') ∙
      (ap (λ l. set (memory_of blocks) i (Cells l)) (ap (named s.now.cells) h ∙ named_set s.now.cells cells.items at c) ∙ ap (λ o. set_in o at c (memory_of blocks) i) (sym there))

  pub cell_set_kinds : map kind_of (set blocks i (HeldCells number s cells')) ≡ map kind_of blocks
  cell_set_kinds = map-set_same kind_of blocks i (HeldCells number s cells') d (ap kind_of (sym e))

  pub cell_set_kept : (structs : List StructDecl) → CellHolds blocks i at c → AreAllHeld structs blocks → AreAllHeld structs (set blocks i (HeldCells number s cells'))
  cell_set_kept structs w = kept_by structs blocks i (HeldCells number s cells') (λ offset. ap (λ o. is_place_in o offset) there)
      (λ all. let was = at_block structs (memory_of blocks) blocks i d (HeldCells number s cells) lt e all in
      (was.0, ap length h ∙ (length-set cells.items at c ∙ was.1), subst (λ (l : List Cell). AreCellsOf (memory_of blocks) s.now.cells (named s.now.cells l)) (sym h) (cells_set (memory_of blocks) s.now.cells cells.items at c holds was.2)))
    where
      holds : kind_holds (memory_of blocks) (slice_get s.now.cells at) c ≡ true
      holds = subst (λ (o : Option Held). CellHoldsIn (memory_of blocks) o at c) (slice_get-get_or blocks i d lt ∙ ap Some e) w.holds

-- ---- answers

within : (limit : Option ℕ) (n : ℕ) (m : Meter) → Passes (started limit) n m → IsWithin limit n
within (Some l) n (Left b) h = omega arith
within (Some l) n (Taken b) h = absurd h
within None n m h = tt

module _ (run : Run) (limit : Option ℕ) (old mid new : State) (blocks : memory_in mid ≡ memory_in old) (begun : mid.meter ≡ started limit) where
  passes : (n : ℕ) → Passes mid.meter n new.meter → Passes (started limit) n new.meter
  passes n h = subst (λ (m : Meter). Passes m n new.meter) begun h

  from : (es : List Event) → memory_in new ≡ after es (memory_in mid) → memory_in new ≡ after es (memory_in old)
  from es h = h ∙ ap (after es) blocks

pub answer_returns : (run : Run) (limit : Option ℕ) (old mid new : State) (n : ℕ) → memory_in mid ≡ memory_in old → mid.meter ≡ started limit → Follows run (Ok (flow.Returns n)) [] mid new → Answers run limit (Ok n) (memory_in old) (memory_in new)
answer_returns (Falls env es) limit old mid new n e b h = absurd h.by
answer_returns (Returns k es) limit old mid new n e b h =
    (h.by.0, within limit (steps_of es) new.meter (passes (Returns k es) limit old mid new e b (steps_of es) h.by.1.meter), from (Returns k es) limit old mid new e b es h.by.1.memory)
answer_returns (Stuck r i s es) limit old mid new n e b h = absurd h.by

pub answer_stuck : (run : Run) (limit : Option ℕ) (old mid new : State) (x y z : ℕ) → memory_in mid ≡ memory_in old → mid.meter ≡ started limit → Follows run (Err (stop.Stuck x y z)) [] mid new →
    Answers run limit (Err (halt.Stuck x y z)) (memory_in old) (memory_in new)
answer_stuck (Falls env es) limit old mid new x y z e b h = absurd h.by
answer_stuck (Returns k es) limit old mid new x y z e b h = absurd h.by
answer_stuck (Stuck r i s es) limit old mid new x y z e b h =
    (h.by.0, h.by.1, h.by.2, within limit (steps_of es) new.meter (passes (Stuck r i s es) limit old mid new e b (steps_of es) h.by.3.meter), from (Stuck r i s es) limit old mid new e b es h.by.3.memory)

-- a limit that is spent
spent_at : (limit : Option ℕ) (k : ℕ) (m : Meter) → m ≡ Left 0 → Passes (started limit) k m → limit ≡ Some k
spent_at (Some l) k (Left b) e h = let none : b ≡ 0 = cc in let same : l ≡ k = omega arith in ap Some same
spent_at (Some l) k (Taken b) e h = absurd h
spent_at None k (Left b) e h = absurd h
spent_at None k (Taken b) e h = absurd cc

taken_spent : (limit : Option ℕ) (k : ℕ) (m : Meter) → m ≡ Left 0 → limit ≡ Some k → taken_by limit m ≡ k
taken_spent limit k m e h = ap (λ l. taken_by l m) h ∙ (ap (taken_by (Some k)) e ∙ omega arith)

spends : (run : Run) (limit : Option ℕ) (old mid new : State) → memory_in mid ≡ memory_in old → mid.meter ≡ started limit → Spends (events_of run) mid new →
    (limit ≡ Some (taken_by limit new.meter)) × (taken_by limit new.meter < steps_of (events_of run)) × (memory_in new ≡ after (first_steps (taken_by limit new.meter) (events_of run)) (memory_in old))
spends run limit old mid new e b w =
    let is : limit ≡ Some w.steps = spent_at limit w.steps new.meter w.spent (passes run limit old mid new e b w.steps w.part.meter) in
    let same : taken_by limit new.meter ≡ w.steps = taken_spent limit w.steps new.meter w.spent is in
    (is ∙ ap Some (sym same), subst (λ n. n < steps_of (events_of run)) (sym same) w.over, from run limit old mid new e b (first_steps w.steps (events_of run)) w.part.memory ∙ ap (λ n. after (first_steps n (events_of run)) (memory_in old)) (sym same))

pub answer_spent : (run : Run) (limit : Option ℕ) (old mid new : State) → memory_in mid ≡ memory_in old → mid.meter ≡ started limit → Follows run (Err stop.Spent) [] mid new →
    Answers run limit (Err (halt.Spent (taken_by limit new.meter))) (memory_in old) (memory_in new)
answer_spent (Falls env es) limit old mid new e b h = spends (Falls env es) limit old mid new e b h.by
answer_spent (Returns k es) limit old mid new e b h = spends (Returns k es) limit old mid new e b h.by
answer_spent (Stuck r i s es) limit old mid new e b h = spends (Stuck r i s es) limit old mid new e b h.by

counts : (limit : Option ℕ) (k : ℕ) (m : Meter) → IsSmall limit → Passes (started limit) k m → taken_by limit m ≡ min k 18446744073709551615
counts (Some l) k (Left b) s h = omega arith
counts (Some l) k (Taken b) s h = absurd h
counts None k (Left b) s h = absurd h
counts None k (Taken b) s h = omega arith

wants : (run : Run) (limit : Option ℕ) (old mid new : State) → IsSmall limit → memory_in mid ≡ memory_in old → mid.meter ≡ started limit → Wants (events_of run) mid new →
    Wanted run limit (taken_by limit new.meter) (memory_in old) (memory_in new)
wants run limit old mid new s e b w = record {
  taken = w.steps;
  few = w.part.few;
  within = within limit w.steps new.meter (passes run limit old mid new e b w.steps w.part.meter);
  counted = counts limit w.steps new.meter s (passes run limit old mid new e b w.steps w.part.meter);
  memory = from run limit old mid new e b (first_steps w.steps (events_of run)) w.part.memory;
}

pub answer_wants : (run : Run) (limit : Option ℕ) (old mid new : State) → IsSmall limit → memory_in mid ≡ memory_in old → mid.meter ≡ started limit → Follows run (Err stop.OutOfMemory) [] mid new →
    Answers run limit (Err (halt.OutOfMemory (taken_by limit new.meter))) (memory_in old) (memory_in new)
answer_wants (Falls env es) limit old mid new s e b h = wants (Falls env es) limit old mid new s e b h.by
answer_wants (Returns k es) limit old mid new s e b h = wants (Returns k es) limit old mid new s e b h.by
answer_wants (Stuck r i k es) limit old mid new s e b h = wants (Stuck r i k es) limit old mid new s e b h.by

-- ---- blocks that are taken over

-- some blocks are held, and the rest is to come
pub record Prepared (structs : List StructDecl) (all rest : List Given) (held : List Held) : Type 0 where
  pub kinds : map kind_of held ++ map kind_given rest ≡ map kind_given all
  pub blocks : map block_of held ++ map (block_given structs) rest ≡ map (block_given structs) all
  pub holds : (m : Memory) → AreHeld structs m held
  pub numbered : AreNumbered structs rest

pub prepared_none : (structs : List StructDecl) (all : List Given) → AreNumbered structs all → Prepared structs all all []
prepared_none structs all h = record { kinds = refl; blocks = refl; holds = λ m. tt; numbered = h }

moved : {A B C : Type 0} (f : A → C) (g : B → C) (xs : List A) (x : A) (ys : List B) (y : B) → f x ≡ g y → map f (xs ++ x ∷ []) ++ map g ys ≡ map f xs ++ map g (y ∷ ys)
moved f g [] x ys y e = ap (λ z. z ∷ map g ys) e
moved f g (z ∷ zs) x ys y e = ap (λ l. f z ∷ l) (moved f g zs x ys y e)

held_more : (structs : List StructDecl) (m : Memory) (xs : List Held) (x : Held) → AreHeld structs m xs → IsHeld structs m x → AreHeld structs m (xs ++ x ∷ [])
held_more structs m [] x h k = (k, tt)
held_more structs m (y ∷ ys) x h k = (h.0, held_more structs m ys x h.1 k)

pub prepared_next : (structs : List StructDecl) (all rest rest' : List Given) (held held' : List Held) (given : Given) (block : Held) → Prepared structs all rest held → rest ≡ given ∷ rest' → held' ≡ held ++ block ∷ [] → IsHeldAs structs given block →
    Prepared structs all rest' held'
prepared_next structs all rest rest' held held' given block p e h was = record {
  kinds = ap (λ l. map kind_of l ++ map kind_given rest') h ∙ (moved kind_of kind_given held block rest' given was.kind ∙ (ap (λ l. map kind_of held ++ map kind_given l) (sym e) ∙ p.kinds));
  blocks =
      ap (λ l. map block_of l ++ map (block_given structs) rest') h ∙
      (moved block_of (block_given structs) held block rest' given was.block ∙ (ap (λ l. map block_of held ++ map (block_given structs) l) (sym e) ∙ p.blocks));
  holds = λ m. subst (λ (l : List Held). AreHeld structs m l) (sym h) (held_more structs m held block (p.holds m) (was.holds m));
  numbered = later p.numbered;
}
  where
    later : AreNumbered structs rest → AreNumbered structs rest'
    later n = let both : AreNumbered structs (given ∷ rest') = subst (λ (l : List Given). AreNumbered structs l) e n in both.1

pub next_numbered : (structs : List StructDecl) (all rest rest' : List Given) (held : List Held) (given : Given) → Prepared structs all rest held → rest ≡ given ∷ rest' → IsNumbered structs given
next_numbered structs all rest rest' held given p e = let both : AreNumbered structs (given ∷ rest') = subst (λ (l : List Given). AreNumbered structs l) e p.numbered in both.0

-- a struct that is there is found
pub is_there : (structs : List StructDecl) (number : ℕ) → number < length structs → slice_get structs number ≡ None → ⊥
is_there [] number lt e = omega arith
is_there (s ∷ ss) zero lt e = cc
is_there (s ∷ ss) (suc number) lt e = is_there ss number (omega arith) e

pub prepared_kinds : (structs : List StructDecl) (all rest : List Given) (held : List Held) → Prepared structs all rest held → length rest ≡ 0 → map kind_of held ≡ map kind_given all
prepared_kinds structs all [] held p e = sym (append-nil (map kind_of held)) ∙ p.kinds
prepared_kinds structs all (x ∷ xs) held p e = absurd (omega arith)

pub prepared_memory : (structs : List StructDecl) (all rest : List Given) (held : List Held) → Prepared structs all rest held → length rest ≡ 0 → memory_of held ≡ map (block_given structs) all
prepared_memory structs all [] held p e = sym (append-nil (map block_of held)) ∙ p.blocks
prepared_memory structs all (x ∷ xs) held p e = absurd (omega arith)

-- cells of a struct that is there are held as they were given
pub cells_held : (structs : List StructDecl) (number : ℕ) (d : Bor StructDecl) (cells : Vec Cell Global) → slice_get structs number ≡ Some d.now → cells.items ≡ replicate (length d.now.cells) Unset → IsHeldAs structs (GivenCells number) (HeldCells number d cells)
cells_held structs number d cells e h = record {
  block = ap Cells (ap (named d.now.cells) h ∙ named_unset d.now.cells) ∙ ap unset_of (sym e);
  kind = refl;
  holds = λ m. (e, ap length h ∙ length-replicate (length d.now.cells) Unset, subst (λ (l : List Cell). AreCellsOf m d.now.cells (named d.now.cells l)) (sym h) (unset_held m d.now.cells));
}

-- ---- what stays

kinds_last : (old new : List Held) → map lasting_of new ≡ map lasting_of old → map kind_of new ≡ map kind_of old
kinds_last [] [] e = refl
kinds_last [] (y ∷ ys) e = absurd cc
kinds_last (x ∷ xs) [] e = absurd cc
kinds_last (x ∷ xs) (y ∷ ys) e =
    let first : lasting_of y ≡ lasting_of x = cc in let rest : map lasting_of ys ≡ map lasting_of xs = cc in
    ap (λ k. k ∷ map kind_of ys) (one x y first) ∙ ap (λ l. kind_of x ∷ l) (kinds_last xs ys rest)
  where
    one : (a b : Held) → lasting_of b ≡ lasting_of a → kind_of b ≡ kind_of a
    one (HeldFixed u) (HeldFixed v) e = refl
    one (HeldOutput u) (HeldOutput v) e = refl
    one (HeldCells i d u) (HeldCells j f v) e = let same : j ≡ i = cc in ap CellsOf same
    one (HeldFixed u) (HeldOutput v) e = absurd cc
    one (HeldFixed u) (HeldCells j f v) e = absurd cc
    one (HeldOutput u) (HeldFixed v) e = absurd cc
    one (HeldOutput u) (HeldCells j f v) e = absurd cc
    one (HeldCells i d u) (HeldFixed v) e = absurd cc
    one (HeldCells i d u) (HeldOutput v) e = absurd cc

lengths_last : (old new : List Held) → map lasting_of new ≡ map lasting_of old → map bytes_in (memory_of new) ≡ map bytes_in (memory_of old)
lengths_last [] [] e = refl
lengths_last [] (y ∷ ys) e = absurd cc
lengths_last (x ∷ xs) [] e = absurd cc
lengths_last (x ∷ xs) (y ∷ ys) e =
    let first : lasting_of y ≡ lasting_of x = cc in let rest : map lasting_of ys ≡ map lasting_of xs = cc in
    ap (λ k. k ∷ map bytes_in (memory_of ys)) (one x y first) ∙ ap (λ l. bytes_in (block_of x) ∷ l) (lengths_last xs ys rest)
  where
    one : (a b : Held) → lasting_of b ≡ lasting_of a → bytes_in (block_of b) ≡ bytes_in (block_of a)
    one (HeldFixed u) (HeldFixed v) e = let same : v.now ≡ u.now = cc in ap (λ l. Some (length l)) same
    one (HeldOutput u) (HeldOutput v) e = let same : length v.items ≡ length u.items = cc in ap Some same
    one (HeldCells i d u) (HeldCells j f v) e = refl
    one (HeldFixed u) (HeldOutput v) e = absurd cc
    one (HeldFixed u) (HeldCells j f v) e = absurd cc
    one (HeldOutput u) (HeldFixed v) e = absurd cc
    one (HeldOutput u) (HeldCells j f v) e = absurd cc
    one (HeldCells i d u) (HeldFixed v) e = absurd cc
    one (HeldCells i d u) (HeldOutput v) e = absurd cc

fixed_last : (old new : List Held) (b : ℕ) → map lasting_of new ≡ map lasting_of old → slice_get (map kind_of old) b ≡ Some Fixed → slice_get (memory_of new) b ≡ slice_get (memory_of old) b
fixed_last [] [] b e h = refl
fixed_last [] (y ∷ ys) b e h = absurd cc
fixed_last (x ∷ xs) [] b e h = absurd cc
fixed_last (x ∷ xs) (y ∷ ys) (suc b) e h = let rest : map lasting_of ys ≡ map lasting_of xs = cc in fixed_last xs ys b rest h
fixed_last (x ∷ xs) (y ∷ ys) zero e h =
    let first : lasting_of y ≡ lasting_of x = cc in let kind : kind_of x ≡ Fixed = cc in ap Some (one x y first kind)
  where
    one : (a b : Held) → lasting_of b ≡ lasting_of a → kind_of a ≡ Fixed → block_of b ≡ block_of a
    one (HeldFixed u) (HeldFixed v) e k = let same : v.now ≡ u.now = cc in ap Bytes same
    one (HeldFixed u) (HeldOutput v) e k = absurd cc
    one (HeldFixed u) (HeldCells j f v) e k = absurd cc
    one (HeldOutput u) v e k = absurd cc
    one (HeldCells i d u) v e k = absurd cc

pub stays : (program : Program) (old new : List Held) → map lasting_of new ≡ map lasting_of old →
    Stays (record { program = program; kinds = map kind_of old; memory = memory_of old }) (record { program = program; kinds = map kind_of new; memory = memory_of new })
stays program old new e = record { program = refl; kinds = kinds_last old new e; fixed = λ b h. fixed_last old new b e h; lengths = lengths_last old new e }

-- ---- the kinds of a machine's cells

well_kinded : (structs : List StructDecl) (m : Memory) (blocks : List Held) → AreHeld structs m blocks → AreBlocksOf structs m (map kind_of blocks) (memory_of blocks)
well_kinded structs m [] h = tt
well_kinded structs m (HeldFixed bytes ∷ bs) h = (tt, well_kinded structs m bs h.1)
well_kinded structs m (HeldOutput bytes ∷ bs) h = (tt, well_kinded structs m bs h.1)
well_kinded structs m (HeldCells number d cells ∷ bs) h =
    (subst (λ (o : Option StructDecl). AreCellsIn m o (named d.now.cells cells.items)) (sym h.0.0) h.0.2, well_kinded structs m bs h.1)

pub kinds_hold : (items : List CItem) (blocks : List Held) → AreAllHeld (structs_of items) blocks → IsWellKinded items (map kind_of blocks) (memory_of blocks)
kinds_hold items blocks h = well_kinded (structs_of items) (memory_of blocks) blocks h.all

-- a block of cells, by the memory
pub cells_there : (structs : List StructDecl) (blocks : List Held) (i number : ℕ) (d : Bor StructDecl) (cells : Vec Cell Global) → slice_get blocks i ≡ Some (HeldCells number d cells) → AreAllHeld structs blocks →
    cells.items ≡ cells_in (slice_get (memory_of blocks) i)
cells_there structs blocks i number d cells e h =
    let lt = slice_get_within blocks i (HeldCells number d cells) e in
    let block : slice_get (memory_of blocks) i ≡ Some (Cells (named d.now.cells cells.items)) = slice_get-map block_of blocks i ∙ ap (option_map block_of) e in
    let was = at_block structs (memory_of blocks) blocks i (HeldCells number d cells) (HeldCells number d cells) lt (get_or_from_slice_get blocks i (HeldCells number d cells) (HeldCells number d cells) e) h.all in
    sym (ap cells_in block ∙ named_cells d.now.cells cells.items was.1)

pub has_block : (blocks : List Held) (i at : ℕ) → HasCell blocks i at → i < length blocks
has_block blocks i at h = by (slice_get blocks i) refl h.has
  where
    by : (o : Option Held) → slice_get blocks i ≡ o → HasCellIn o at → i < length blocks
    by (Some x) e k = slice_get_within blocks i x e
    by None e k = absurd k

-- ---- runs of a function by its number

-- what lasts over a run that is followed
record Lasts (old new : State) : Type 0 where
  lasting : map lasting_of new.blocks.items ≡ map lasting_of old.blocks.items
  kept : (structs : List StructDecl) → AreAllHeld structs old.blocks.items → AreAllHeld structs new.blocks.items

lasts_whole : (es : List Event) (old new : State) → Whole es old new → Lasts old new
lasts_whole es old new h = record { lasting = h.lasting; kept = h.kept }

lasts_cut : (es : List Event) (x : Stop) (old new : State) → IsCut es x old new → Lasts old new
lasts_cut es stop.Spent old new h = record { lasting = h.part.lasting; kept = h.part.kept }
lasts_cut es stop.OutOfMemory old new h = record { lasting = h.part.lasting; kept = h.part.kept }
lasts_cut es (stop.Stuck r i s) old new h = absurd h

lasts : (r : Run) (x : Result Flow Stop) (env : Scopes) (old new : State) → Follows r x env old new → Lasts old new
lasts (Falls e es) (Ok flow.Falls) env old new h = lasts_whole es old new h.by.1
lasts (Falls e es) (Ok (flow.Returns k)) env old new h = absurd h.by
lasts (Falls e es) (Err x) env old new h = lasts_cut es x old new h.by
lasts (Returns n es) (Ok flow.Falls) env old new h = absurd h.by
lasts (Returns n es) (Ok (flow.Returns k)) env old new h = lasts_whole es old new h.by.1
lasts (Returns n es) (Err x) env old new h = lasts_cut es x old new h.by
lasts (Stuck r i s es) (Ok f) env old new h = absurd h.by
lasts (Stuck r i s es) (Err (stop.Stuck a b c)) env old new h = lasts_whole es old new h.by.3
lasts (Stuck r i s es) (Err stop.Spent) env old new h = lasts_cut es stop.Spent old new h.by
lasts (Stuck r i s es) (Err stop.OutOfMemory) env old new h = lasts_cut es stop.OutOfMemory old new h.by

module _ (items : List CItem) (number : ℕ) (f : Function) (vs : List Value) (limit : Option ℕ) (there : slice_get items number ≡ Some (AFunction f)) where
  -- want of memory before the function is entered
  pub runs_early : (state : State) → Runs (meaning items number vs (memory_in state)) limit (Err (halt.OutOfMemory 0)) state state
  runs_early state = record { answers = at (meaning items number vs (memory_in state)) waits; lasting = refl; kept = λ structs h. h }
    where
      waits : Waits (events_of (meaning items number vs (memory_in state)))
      waits = subst (λ (o : Option CItem). Waits (events_of (meaning_of items number o vs (memory_in state)))) (sym there) (waits_called (calls_of (take number items)) number f vs (memory_in state))

      none : (l : Option ℕ) → IsWithin l 0
      none (Some l) = omega arith
      none None = tt

      wanted : (r : Run) → Waits (events_of r) → Wanted r limit 0 (memory_in state) (memory_in state)
      wanted r w = record { taken = 0; few = omega arith; within = none limit; counted = omega arith; memory = sym (w.quiet (memory_in state)) }

      at : (r : Run) → Waits (events_of r) → Answers r limit (Err (halt.OutOfMemory 0)) (memory_in state) (memory_in state)
      at (Falls env es) w = wanted (Falls env es) w
      at (Returns n es) w = wanted (Returns n es) w
      at (Stuck r i s es) w = wanted (Stuck r i s es) w

  module _ (old mid new : State) (blocks : mid.blocks.items ≡ old.blocks.items) (begun : mid.meter ≡ started limit) where
    runs : (x : Result Flow Stop) (result : Result ℕ Halt) → Follows (called (calls_of (take number items)) number f vs (memory_in mid)) x [] mid new →
        Answers (called (calls_of (take number items)) number f vs (memory_in mid)) limit result (memory_in old) (memory_in new) → Runs (meaning items number vs (memory_in old)) limit result old new
    runs x result h a =
        let last = lasts (called (calls_of (take number items)) number f vs (memory_in mid)) x [] mid new h in
        record {
          answers =
              subst (λ (m : Memory). Answers (meaning items number vs m) limit result (memory_in old) (memory_in new)) (ap (map block_of) blocks)
              (subst (λ (o : Option CItem). Answers (meaning_of items number o vs (memory_in mid)) limit result (memory_in old) (memory_in new)) (sym there) a);
          lasting = last.lasting ∙ ap (map lasting_of) blocks;
          kept = λ structs k. last.kept structs (subst (λ (l : List Held). AreAllHeld structs l) (sym blocks) k);
        }

    pub runs_returns : (n : ℕ) → Follows (called (calls_of (take number items)) number f vs (memory_in mid)) (Ok (flow.Returns n)) [] mid new → Runs (meaning items number vs (memory_in old)) limit (Ok n) old new
    runs_returns n h = runs (Ok (flow.Returns n)) (Ok n) h (answer_returns _ limit old mid new n (ap (map block_of) blocks) begun h)

    pub runs_stuck : (x y z : ℕ) → Follows (called (calls_of (take number items)) number f vs (memory_in mid)) (Err (stop.Stuck x y z)) [] mid new → Runs (meaning items number vs (memory_in old)) limit (Err (halt.Stuck x y z)) old new
    runs_stuck x y z h = runs (Err (stop.Stuck x y z)) (Err (halt.Stuck x y z)) h (answer_stuck _ limit old mid new x y z (ap (map block_of) blocks) begun h)

    pub runs_spent : Follows (called (calls_of (take number items)) number f vs (memory_in mid)) (Err stop.Spent) [] mid new → Runs (meaning items number vs (memory_in old)) limit (Err (halt.Spent (taken_by limit new.meter))) old new
    runs_spent h = runs (Err stop.Spent) (Err (halt.Spent (taken_by limit new.meter))) h (answer_spent _ limit old mid new (ap (map block_of) blocks) begun h)

    pub runs_wants : IsSmall limit → Follows (called (calls_of (take number items)) number f vs (memory_in mid)) (Err stop.OutOfMemory) [] mid new → Runs (meaning items number vs (memory_in old)) limit (Err (halt.OutOfMemory (taken_by limit new.meter))) old new
    runs_wants s h = runs (Err stop.OutOfMemory) (Err (halt.OutOfMemory (taken_by limit new.meter))) h (answer_wants _ limit old mid new s (ap (map block_of) blocks) begun h)

-- ---- what may be set

-- a cell that may be set is there, and may hold what it is set to
pub may_set : (structs : List StructDecl) (blocks : List Held) (block cell : ℕ) (to : Cell) → AreAllHeld structs blocks → MaySet structs (memory_of blocks) (slice_get (map kind_of blocks) block) cell to →
    HasCell blocks block cell × CellHolds blocks block cell to
may_set structs blocks block cell to h k =
    by (slice_get blocks block) refl (subst (λ (o : Option BlockKind). MaySet structs (memory_of blocks) o cell to) (slice_get-map kind_of blocks block) k)
  where
    within_infos : (infos : List CellInfo) → kind_holds (memory_of blocks) (slice_get infos cell) to ≡ true → cell < length infos
    within_infos infos e = case (slice_get infos cell) refl e
      where
        case : (o : Option CellInfo) → slice_get infos cell ≡ o → kind_holds (memory_of blocks) o to ≡ true → cell < length infos
        case (Some i) e' t = slice_get_within infos cell i e'
        case None e' t = absurd cc

    by : (o : Option Held) → slice_get blocks block ≡ o → MaySet structs (memory_of blocks) (option_map kind_of o) cell to → HasCell blocks block cell × CellHolds blocks block cell to
    by None e t = absurd t
    by (Some (HeldFixed bytes)) e t = absurd t
    by (Some (HeldOutput bytes)) e t = absurd t
    by (Some (HeldCells number d cells)) e t =
        let x : Held = HeldCells number d cells in
        let lt = slice_get_within blocks block x e in
        let was = at_block structs (memory_of blocks) blocks block x x lt (get_or_from_slice_get blocks block x x e) h.all in
        let holds = subst (λ (o : Option StructDecl). kind_holds (memory_of blocks) (info_in o cell) to ≡ true) was.0 t in
        let few = within_infos d.now.cells holds in
        let long = was.1 in (
          record { has = subst (λ (o : Option Held). HasCellIn o cell) (sym e) (omega arith) },
          record { holds = subst (λ (o : Option Held). CellHoldsIn (memory_of blocks) o cell to) (sym e) holds },
        )

-- a block of cells, by its struct
pub cells_named : (structs : List StructDecl) (blocks : List Held) (i number : ℕ) (d : Bor StructDecl) (cells : Vec Cell Global) → slice_get blocks i ≡ Some (HeldCells number d cells) → AreAllHeld structs blocks →
    AreNamed structs (slice_get (map kind_of blocks) i) cells.items (slice_get (memory_of blocks) i)
cells_named structs blocks i number d cells e h =
    let x : Held = HeldCells number d cells in
    let lt = slice_get_within blocks i x e in
    let block : slice_get (memory_of blocks) i ≡ Some (Cells (named d.now.cells cells.items)) = slice_get-map block_of blocks i ∙ ap (option_map block_of) e in
    let kind : slice_get (map kind_of blocks) i ≡ Some (CellsOf number) = slice_get-map kind_of blocks i ∙ ap (option_map kind_of) e in
    let was = at_block structs (memory_of blocks) blocks i x x lt (get_or_from_slice_get blocks i x x e) h.all in
    subst (λ (o : Option BlockKind). AreNamed structs o cells.items (slice_get (memory_of blocks) i)) (sym kind)
    (subst (λ (o : Option StructDecl). AreNamedBy o cells.items (slice_get (memory_of blocks) i)) (sym was.0) block)
