-- Writing one text behind another.
use Rattle.std.proofs.Common.{◌≡◌, ℕ, zero, suc, ◌+◌, ◌<◌, ◌≤◌, List, [], ◌∷◌, ◌++◌, length, take, drop, map, get_or, ap, sym, inl, inr, ◌∙◌, subst, arith, append_assoc}
use Rattle.std.specs.List.{AllByRecursion}
use Rattle.std.proofs.lemmas.List.{length-append, take_at, drop_at, length-take, length-drop, drop-drop, take_all}
use Rattle.ecd_head.specs.Head.{IsWritable}
use Rattle.ecd_item_laws.specs.declared.item.Item.{Item}
use Rattle.ecd_item_laws.specs.declared.item.Item.TheVariants.{Array, Map, Simple}
use Rattle.ecd_item_laws.specs.declared.item.Pair.{Pair}
use Rattle.ecd_keyorder.specs.declared.Order.{Order}
use Rattle.ecd_item_laws.specs.Encoding.{joined}
use Rattle.ecd_item_laws.specs.Valid.{IsValid}
use Rattle.ecd_item.specs.Writing.{Emits}
use Rattle.ecd_item_laws.proofs.Layers.{valid_Array, valid_Map}
use Rattle.ecd_item_laws.specs.Valid.{IsValidPair}
use Rattle.ecd_item.proofs.Lengths.{joined-more}

pub Emits-then : (old : List ℕ) (at : ℕ) (a mid : List ℕ) (k : ℕ) (b new : List ℕ) (end : ℕ) → Emits old at a mid k → Emits mid k b new end → Emits old at (a ++ b) new end
Emits-then old at a mid k b new end p q =
    let front : length (take at old) ≡ at = omega (arith, length-take at old, p.written.fits) in
    let k-is : k ≡ at + length a = p.behind in
    let len : length (take at old ++ a) ≡ k = omega (arith, length-append (take at old) a) in
    let t : take k mid ≡ take at old ++ a = rw p.written.made (take_at (take at old ++ a) (drop (at + length a) old) k len) in
    let d : drop k mid ≡ drop (at + length a) old = rw p.written.made (drop_at (take at old ++ a) (drop (at + length a) old) k len) in
    let e : drop (k + length b) mid ≡ drop (at + length (a ++ b)) old =
    sym (drop-drop (length b) k mid) ∙ (ap (drop (length b)) d ∙ (drop-drop (length b) (at + length a) old ∙ ap (λ (n : ℕ). drop n old) (omega (arith, length-append a b)))) in
    record {
      written = record {
        fits = omega (arith, length-append a b, q.written.fits, ap length p.written.made, length-append (take at old ++ a) (drop (at + length a) old), length-drop (at + length a) old, p.written.fits);
        made = q.written.made ∙ rw (t, e) (ap (λ (x : List ℕ). x ++ drop (at + length (a ++ b)) old) (append_assoc (take at old) a b));
      };
      behind = omega (arith, length-append a b, q.behind);
    }

pub Emits-long : (old : List ℕ) (at : ℕ) (a new : List ℕ) (end : ℕ) → Emits old at a new end → (length new ≡ length old) × (end ≡ at + length a)
Emits-long old at a new end p =
    (omega (arith, p.written.fits, ap length p.written.made, length-append (take at old ++ a) (drop (at + length a) old), length-append (take at old) a, length-take at old, length-drop (at + length a) old), p.behind)

-- the front of some pieces is no longer than all of them
pub joined-front : {A : Type 0} (text : A → List ℕ) (xs : List A) (i : ℕ) (d : A) → i < length xs → length (joined (map text (take i xs))) + length (text (get_or xs i d)) ≤ length (joined (map text xs))
joined-front text (x ∷ xs) zero d lt = omega (arith, length-append (text x) (joined (map text xs)))
joined-front text (x ∷ xs) (suc i) d lt =
    omega (arith, length-append (text x) (joined (map text xs)), length-append (text x) (joined (map text (take i xs))), joined-front text xs i d (omega arith))
joined-front text [] i d lt = absurd (omega arith)

pub at_place : {A : Type 0} (P : A → Type 0) (xs : List A) (i : ℕ) (d : A) → i < length xs → AllByRecursion P xs → P (get_or xs i d)
at_place P (x ∷ xs) zero d lt h = h.0
at_place P (x ∷ xs) (suc i) d lt h = at_place P xs i d (omega arith) h.1
at_place P [] i d lt h = absurd (omega arith)

-- ---- the loops

pub head_room : (old : List ℕ) (at : ℕ) (a b c : List ℕ) → c ≡ a ++ b → at + length c ≤ length old → at + length a ≤ length old
head_room old at a b c e h = omega (arith, ap length e, length-append a b)

-- one more piece fits
pub piece_room : {A : Type 0} (text : A → List ℕ) (xs : List A) (i : ℕ) (x : A) (front whole old mid : List ℕ) (at here : ℕ) → i < length xs → x ≡ get_or xs i x → whole ≡ front ++ joined (map text xs) → at + length whole ≤ length old
    → Emits old at (front ++ joined (map text (take i xs))) mid here → here + length (text x) ≤ length mid
piece_room text xs i x front whole old mid at here lt is e room p =
    let f = joined-front text xs i x lt in
    let l = Emits-long old at (front ++ joined (map text (take i xs))) mid here p in
    let s : length (text (get_or xs i x)) ≡ length (text x) = ap (λ y. length (text y)) (sym is) in
    omega (arith, f, l.0, l.1, s, ap length e, length-append front (joined (map text xs)), length-append front (joined (map text (take i xs))))

pub piece_next : {A : Type 0} (text : A → List ℕ) (xs : List A) (i : ℕ) (x : A) (front old mid new : List ℕ) (at here end : ℕ) → i < length xs → x ≡ get_or xs i x
    → Emits old at (front ++ joined (map text (take i xs))) mid here → Emits mid here (text x) new end → Emits old at (front ++ joined (map text (take (i + 1) xs))) new end
piece_next text xs i x front old mid new at here end lt is p q =
    let e : (front ++ joined (map text (take i xs))) ++ text x ≡ front ++ joined (map text (take (i + 1) xs)) =
    append_assoc front (joined (map text (take i xs))) (text x) ∙ ap (λ (t : List ℕ). front ++ t) (ap (λ y. joined (map text (take i xs)) ++ text y) is ∙ sym (joined-more text xs i x lt)) in
    subst (λ (t : List ℕ). Emits old at t new end) e (Emits-then old at (front ++ joined (map text (take i xs))) mid here (text x) new end p q)

pub piece_done : {A : Type 0} (text : A → List ℕ) (xs : List A) (i : ℕ) (front whole old mid : List ℕ) (at here : ℕ) → length xs ≤ i → whole ≡ front ++ joined (map text xs)
    → Emits old at (front ++ joined (map text (take i xs))) mid here → Emits old at whole mid here
piece_done text xs i front whole old mid at here le e p =
    subst (λ (t : List ℕ). Emits old at t mid here) (ap (λ ys. front ++ joined (map text ys)) (take_all i xs le) ∙ sym e) p

pub simple_writable : (order : Order) (it : Item) (n : ℕ) → it ≡ Simple n → IsValid order it → IsWritable 7 n
unfolding IsValid
simple_writable order it n is h =
    let v : IsValid order (Simple n) = subst (IsValid order) is h in
    record { known = omega arith; fits = elim v [ inl g ↦ omega arith | inr g ↦ omega arith ]; simple = λ e. v }

pub item_valid : (order : Order) (xs : List Item) (i : ℕ) (x : Item) → i < length xs → x ≡ get_or xs i x → IsValid order (Array xs) → IsValid order x
item_valid order xs i x lt is h = subst (IsValid order) (sym is) (at_place (IsValid order) xs i x lt (valid_Array order xs h).1)

pub pair_valid : (order : Order) (xs : List Pair) (i : ℕ) (x : Pair) → i < length xs → x ≡ get_or xs i x → IsValid order (Map xs) → IsValidPair order x
pair_valid order xs i x lt is h = subst (IsValidPair order) (sym is) (at_place (IsValidPair order) xs i x lt (valid_Map order xs h).1)

pub key_room : (k v mid : List ℕ) (here : ℕ) → here + length (k ++ v) ≤ length mid → here + length k ≤ length mid
key_room k v mid here h = omega (arith, length-append k v)

pub value_room : (k v old mid : List ℕ) (here end : ℕ) → here + length (k ++ v) ≤ length old → Emits old here k mid end → end + length v ≤ length mid
value_room k v old mid here end h p = let l = Emits-long old here k mid end p in omega (arith, length-append k v, l.0, l.1)
