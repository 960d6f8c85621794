-- What blocks hold behind writes.
use Rattle.std.proofs.Common.{◌≡◌, ℕ, zero, suc, ◌+◌, List, [], ◌∷◌, ◌++◌, refl, ap, sym, ◌∙◌, subst, Bool, true, false}
use Rattle.std.specs.Prelude.{Option, Some, None, slice_get, slice_set, ◌≢◌, if◌then◌else◌, bytes_eq, nat_eq}
use Rattle.std.proofs.lemmas.Bool.{eqb-true, eqb-false}
use Rattle.std.proofs.lemmas.Slice.Eq.{bytes_eq-Decides}
use Rattle.ecd_cast.specs.declared.value.Cell.{Cell}
use Rattle.ecd_cast.specs.Memory.{Name, Memory, Block, Bytes, Cells, Event, Step, Enters, Leaves, WritesByte, WritesCell, after, event, with_cell, with_byte_in, with_cell_in}
use Rattle.ecd_cast.specs.declared.tree.Expr.TheVariants.{Var, Cell as CellOf}
use Rattle.ecd_cast.specs.declared.value.Value.{Value}
use Rattle.ecd_cast.specs.declared.value.Value.TheVariants.{Struct as Str}
use Rattle.ecd_cast.specs.Expressions.{Scopes, Gives, held, cell_named}
use Rattle.ecd_acts.specs.Acts.{Is}
use Rattle.ecd_calculus.specs.Laws.{Spares, written}
use Rattle.ecd_calculus.proofs.Frame.{after_other}
use Rattle.ecd_emit.specs.Writes.{puts}
use Rattle.ecd_acts.specs.Cells.{cells_behind, has_cell, CellsBehind, Sparing}

same_name : (x : Name) → bytes_eq x x ≡ true
same_name x = (bytes_eq-Decides x x).1 refl

-- ---- cells by their names

put_same : (w : Name × Cell) (ws : List (Name × Cell)) (x : Name) (c : Cell) (b : Bool) → bytes_eq w.0 x ≡ b → (has_cell ws x ≡ true → cell_named (with_cell ws x c) x ≡ held c) →
    (if b then true else has_cell ws x) ≡ true → cell_named (if b then (x, c) ∷ ws else w ∷ with_cell ws x c) x ≡ held c
put_same w ws x c true e ih h = rw (same_name x) refl
put_same w ws x c false e ih h = rw e (ih h)

pub cell_same : (cells : List (Name × Cell)) (x : Name) (c : Cell) → has_cell cells x ≡ true → cell_named (with_cell cells x c) x ≡ held c
cell_same [] x c h = absurd (cc h)
cell_same (w ∷ ws) x c h = put_same w ws x c (bytes_eq w.0 x) refl (cell_same ws x c) h

put_other : (w : Name × Cell) (ws : List (Name × Cell)) (x y : Name) (c : Cell) (b : Bool) → bytes_eq w.0 x ≡ b → bytes_eq x y ≡ false → cell_named (with_cell ws x c) y ≡ cell_named ws y →
    cell_named (if b then (x, c) ∷ ws else w ∷ with_cell ws x c) y ≡ cell_named (w ∷ ws) y
put_other w ws x y c true e apart ih =
    let named : w.0 ≡ x = (bytes_eq-Decides w.0 x).0 e in
    let here : bytes_eq w.0 y ≡ false = ap (λ (n : Name). bytes_eq n y) named ∙ apart in
    rw (apart, here) refl
put_other w ws x y c false e apart ih = ap (λ o. if bytes_eq w.0 y then held w.1 else o) ih

pub cell_other : (cells : List (Name × Cell)) (x y : Name) (c : Cell) → bytes_eq x y ≡ false → cell_named (with_cell cells x c) y ≡ cell_named cells y
cell_other [] x y c h = refl
cell_other (w ∷ ws) x y c h = put_other w ws x y c (bytes_eq w.0 x) refl h (cell_other ws x y c h)

put_kept : (w : Name × Cell) (ws : List (Name × Cell)) (x y : Name) (c : Cell) (b : Bool) → bytes_eq w.0 x ≡ b → has_cell (with_cell ws x c) y ≡ has_cell ws y → has_cell (if b then (x, c) ∷ ws else w ∷ with_cell ws x c) y ≡ has_cell (w ∷ ws) y
put_kept w ws x y c true e ih = let named : x ≡ w.0 = sym ((bytes_eq-Decides w.0 x).0 e) in ap (λ (n : Name). if bytes_eq n y then true else has_cell ws y) named
put_kept w ws x y c false e ih = ap (λ o. if bytes_eq w.0 y then true else o) ih

pub cell_kept : (cells : List (Name × Cell)) (x y : Name) (c : Cell) → has_cell (with_cell cells x c) y ≡ has_cell cells y
cell_kept [] x y c = refl
cell_kept (w ∷ ws) x y c = put_kept w ws x y c (bytes_eq w.0 x) refl (cell_kept ws x y c)

-- ---- blocks of cells

get_set : (m : Memory) (b : ℕ) (old new : Block) → slice_get m b ≡ Some old → slice_get (slice_set m b new) b ≡ Some new
get_set [] b old new h = absurd (cc h)
get_set (x ∷ m) zero old new h = refl
get_set (x ∷ m) (suc b) old new h = get_set m b old new h

one_cell : (m : Memory) (k b : ℕ) (x : Name) (c : Cell) (cells : List (Name × Cell)) (t : Bool) → nat_eq k b ≡ t → slice_get m b ≡ Some (Cells cells) →
    slice_get (with_cell_in (slice_get m k) x c m k) b ≡ Some (Cells (if t then with_cell cells x c else cells))
one_cell m k b x c cells true e h =
    let same : k ≡ b = eqb-true k b e in
    subst (λ (j : ℕ). slice_get (with_cell_in (slice_get m j) x c m j) b ≡ Some (Cells (with_cell cells x c))) (sym same) (rw h (get_set m b (Cells cells) (Cells (with_cell cells x c)) h))
one_cell m k b x c cells false e h = after_other (WritesCell k x c ∷ []) b m (eqb-false k b e, tt) ∙ h

one_byte : (o : Option Block) (m : Memory) (k b at v : ℕ) (cells : List (Name × Cell)) (t : Bool) → nat_eq k b ≡ t → slice_get m k ≡ o → slice_get m b ≡ Some (Cells cells) → slice_get (with_byte_in o at v m k) b ≡ Some (Cells cells)
one_byte (Some (Bytes bytes)) m k b at v cells true e there h = let same : k ≡ b = eqb-true k b e in absurd (cc (there, ap (λ (j : ℕ). slice_get m j) same, h))
one_byte (Some (Bytes bytes)) m k b at v cells false e there h =
    let other = after_other (WritesByte k at v ∷ []) b m (eqb-false k b e, tt) in
    let step : after (WritesByte k at v ∷ []) m ≡ slice_set m k (Bytes (slice_set bytes at v)) = rw there refl in
    ap (λ (n : Memory). slice_get n b) (sym step) ∙ (other ∙ h)
one_byte (Some (Cells held_there)) m k b at v cells t e there h = h
one_byte None m k b at v cells t e there h = h

pub cells_block : (es : List Event) (b : ℕ) (m : Memory) (cells : List (Name × Cell)) → slice_get m b ≡ Some (Cells cells) → slice_get (after es m) b ≡ Some (Cells (cells_behind b es cells))
cells_block [] b m cells h = h
cells_block (WritesCell k x c ∷ es) b m cells h = cells_block es b (event (WritesCell k x c) m) (if nat_eq k b then with_cell cells x c else cells) (one_cell m k b x c cells (nat_eq k b) refl h)
cells_block (WritesByte k o v ∷ es) b m cells h = cells_block es b (event (WritesByte k o v) m) cells (one_byte (slice_get m k) m k b o v cells (nat_eq k b) refl refl h)
cells_block (Step ∷ es) b m cells h = cells_block es b m cells h
cells_block (Enters ∷ es) b m cells h = cells_block es b m cells h
cells_block (Leaves ∷ es) b m cells h = cells_block es b m cells h

pub cell_value : {x c : Name} {env : Scopes} {m : Memory} {b : ℕ} {cells : List (Name × Cell)} {v : Value} → Is (Var x) env m (Str b) → slice_get m b ≡ Some (Cells cells) → cell_named cells c ≡ Gives v → Is (CellOf x c) env m v
cell_value h there e = record { is = rw (h.is, there, e) refl }

pub cells_are : CellsBehind
cells_are = record { block = cells_block; same = cell_same; other = cell_other; kept = cell_kept; load = λ x c env m b cells v. cell_value }

-- ---- writes that spare a block

pub spares_both : (b : ℕ) (es ds : List Event) → Spares b es → Spares b ds → Spares b (es ++ ds)
spares_both b [] ds h k = k
spares_both b (WritesByte x o v ∷ es) ds h k = (h.0, spares_both b es ds h.1 k)
spares_both b (WritesCell x o v ∷ es) ds h k = (h.0, spares_both b es ds h.1 k)
spares_both b (Step ∷ es) ds h k = spares_both b es ds h k
spares_both b (Enters ∷ es) ds h k = spares_both b es ds h k
spares_both b (Leaves ∷ es) ds h k = spares_both b es ds h k

spares_first : (b : ℕ) (es ds : List Event) → Spares b (es ++ ds) → Spares b es
spares_first b [] ds h = tt
spares_first b (WritesByte x o v ∷ es) ds h = (h.0, spares_first b es ds h.1)
spares_first b (WritesCell x o v ∷ es) ds h = (h.0, spares_first b es ds h.1)
spares_first b (Step ∷ es) ds h = spares_first b es ds h
spares_first b (Enters ∷ es) ds h = spares_first b es ds h
spares_first b (Leaves ∷ es) ds h = spares_first b es ds h

spares_second : (b : ℕ) (es ds : List Event) → Spares b (es ++ ds) → Spares b ds
spares_second b [] ds h = h
spares_second b (WritesByte x o v ∷ es) ds h = spares_second b es ds h.1
spares_second b (WritesCell x o v ∷ es) ds h = spares_second b es ds h.1
spares_second b (Step ∷ es) ds h = spares_second b es ds h
spares_second b (Enters ∷ es) ds h = spares_second b es ds h
spares_second b (Leaves ∷ es) ds h = spares_second b es ds h

pub spares_turns : (b : ℕ) (W : ℕ → List Event) → ((i : ℕ) → Spares b (W i)) → (i left : ℕ) → Spares b (written W i left)
spares_turns b W h i zero = tt
spares_turns b W h i (suc left) = spares_both b (W i) (written W (i + 1) left) (h i) (spares_turns b W h (i + 1) left)

pub spares_puts : (b k from : ℕ) (bytes : List ℕ) → k ≢ b → Spares b (puts k from bytes)
spares_puts b k from [] h = tt
spares_puts b k from (byte ∷ bytes) h = (h, spares_puts b k (from + 1) bytes h)

pub sparing : Sparing
sparing = record { both = spares_both; first = spares_first; second = spares_second; turns = spares_turns; bytes = spares_puts }
