-- So many framed items at the front of some bytes, one head at a time.
use Rattle.std.proofs.Common.{◌≡◌, ℕ, zero, suc, ◌+◌, ◌<◌, ◌≤◌, List, [], ◌∷◌, ◌++◌, length, map, take, drop, refl, ap, sym, ◌∙◌, arith, append_assoc, append-nil, length-append, length-drop}
use Rattle.std.specs.Prelude.{Ok}
use Rattle.std.specs.List.{AllByRecursion}
use Rattle.std.proofs.lemmas.Bool.Decides.{nat_tests}
use Rattle.std.proofs.lemmas.List.{drop_at, drop-drop, length-take-le, take-append-drop}
use Rattle.ecd_head.specs.declared.Head.{Head}
use Rattle.ecd_head.specs.Head.{head_bytes}
use Rattle.ecd_head.specs.Fault.{head_at}
use Rattle.ecd_head.proofs.Heads.{head_takes, head_again}
use Rattle.ecd_item_laws.specs.declared.item.Item.{Item}
use Rattle.ecd_item_laws.specs.Encoding.{encoding, joined}
use Rattle.ecd_emit.specs.Windows.{IsBytes}
use Rattle.ecd_fixed_heads.specs.Framed.{IsFramed, FramedEndOnce}
use Rattle.ecd_fixed_heads.specs.Extents.{string_behind, least_behind, inside}
use Rattle.ecd_fixed_heads.proofs.Arguments.{same_read}
use Rattle.ecd_fixed_heads.proofs.Opening.{Opened, opened, closes}

-- so many framed items stand at the front of the bytes, one behind the other, and these are behind them
pub record Owes (bytes : List ℕ) (owed : ℕ) (rest : List ℕ) : Type 0 where
  pub items : List Item
  pub many : length items ≡ owed
  pub framed : AllByRecursion IsFramed items
  pub whole : bytes ≡ joined (map encoding items) ++ rest

-- ---- lists of items

joined_append : (xs ys : List Item) → joined (map encoding (xs ++ ys)) ≡ joined (map encoding xs) ++ joined (map encoding ys)
joined_append [] ys = refl
joined_append (x ∷ xs) ys = ap (λ (t : List ℕ). encoding x ++ t) (joined_append xs ys) ∙ sym (append_assoc (encoding x) (joined (map encoding xs)) (joined (map encoding ys)))

all_append : (xs ys : List Item) → AllByRecursion IsFramed xs → AllByRecursion IsFramed ys → AllByRecursion IsFramed (xs ++ ys)
all_append [] ys h k = k
all_append (x ∷ xs) ys h k = (h.0, all_append xs ys h.1 k)

-- the first of some items, and the others
record Split (xs : List Item) (n k : ℕ) : Type 0 where
  pub front : List Item
  pub back : List Item
  pub is : xs ≡ front ++ back
  pub front_long : length front ≡ n
  pub back_long : length back ≡ k
  pub front_framed : AllByRecursion IsFramed front
  pub back_framed : AllByRecursion IsFramed back

split : (n k : ℕ) (xs : List Item) → length xs ≡ n + k → AllByRecursion IsFramed xs → Split xs n k
split zero k xs e h = record { front = []; back = xs; is = refl; front_long = refl; back_long = omega arith; front_framed = tt; back_framed = h }
split (suc n) k [] e h = absurd (omega arith)
split (suc n) k (x ∷ xs) e h =
    let s = split n k xs (omega arith) h.1 in
    record {
      front = x ∷ s.front;
      back = s.back;
      is = ap (λ (l : List Item). x ∷ l) s.is;
      front_long = ap suc s.front_long;
      back_long = s.back_long;
      front_framed = (h.0, s.front_framed);
      back_framed = s.back_framed;
    }

-- ---- each takes a byte at least

pub head_long : (m a : ℕ) → 0 < length (head_bytes m a)
unfolding head_bytes
head_long m a = grind (arith, nat_tests)

pub item_long : (i : Item) → IsFramed i → 0 < length (encoding i)
item_long i h =
    let o = opened i h in
    omega (arith, ap length o.whole, length-append (head_bytes o.head.major o.head.arg) (o.string ++ joined (map encoding o.within)), head_long o.head.major o.head.arg)

items_long : (xs : List Item) → AllByRecursion IsFramed xs → length xs ≤ length (joined (map encoding xs))
items_long [] h = omega arith
items_long (x ∷ xs) h = omega (arith, length-append (encoding x) (joined (map encoding xs)), item_long x h.0, items_long xs h.1)

pub owed_long : (bytes : List ℕ) (owed : ℕ) (rest : List ℕ) → Owes bytes owed rest → owed + length rest ≤ length bytes
owed_long bytes owed rest h =
    omega (arith, h.many, ap length h.whole, length-append (joined (map encoding h.items)) rest, items_long h.items h.framed)

-- ---- none, and one

none_is : (items : List Item) (bytes rest : List ℕ) → length items ≡ 0 → bytes ≡ joined (map encoding items) ++ rest → bytes ≡ rest
none_is [] bytes rest n e = e
none_is (x ∷ xs) bytes rest n e = absurd (omega arith)

pub owes_none : (bytes rest : List ℕ) → Owes bytes 0 rest → bytes ≡ rest
owes_none bytes rest h = none_is h.items bytes rest h.many h.whole

pub none_owed : (bytes : List ℕ) → Owes bytes 0 bytes
none_owed bytes = record { items = []; many = refl; framed = tt; whole = refl }

pub record One (bytes rest : List ℕ) : Type 0 where
  pub item : Item
  pub framed : IsFramed item
  pub whole : bytes ≡ encoding item ++ rest

one_is : (items : List Item) (bytes rest : List ℕ) → length items ≡ 1 → AllByRecursion IsFramed items → bytes ≡ joined (map encoding items) ++ rest → One bytes rest
one_is [] bytes rest n h e = absurd (omega arith)
one_is (x ∷ []) bytes rest n h e = record { item = x; framed = h.0; whole = e ∙ ap (λ (t : List ℕ). t ++ rest) (append-nil (encoding x)) }
one_is (x ∷ y ∷ ys) bytes rest n h e = absurd (omega arith)

pub owes_one : (bytes rest : List ℕ) → Owes bytes 1 rest → One bytes rest
owes_one bytes rest h = one_is h.items bytes rest h.many h.framed h.whole

pub one_owed : (bytes rest : List ℕ) (i : Item) → IsFramed i → bytes ≡ encoding i ++ rest → Owes bytes 1 rest
one_owed bytes rest i h e = record { items = i ∷ []; many = refl; framed = (h, tt); whole = e ∙ ap (λ (t : List ℕ). t ++ rest) (sym (append-nil (encoding i))) }

-- ---- the first head, and what is owed behind it

-- a head stands at the front, and behind it and its string the items inside and those that were owed besides
pub record Began (bytes : List ℕ) (owed : ℕ) (rest : List ℕ) : Type 0 where
  pub head : Head
  pub size : ℕ
  pub some : 0 < size
  pub read : head_at bytes ≡ Ok (head, size)
  pub room : size + least_behind head ≤ length bytes
  pub more : Owes (drop (size + string_behind head) bytes) (owed + inside head) rest

least_enough : (head : Head) → least_behind head ≤ string_behind head + inside head
least_enough head = grind (arith, nat_tests)

pub string_fits : (head : Head) → string_behind head ≤ least_behind head
string_fits head = grind (arith, nat_tests)

regrouped : (front string parts others rest whole : List ℕ) → whole ≡ front ++ (string ++ parts) → (whole ++ others) ++ rest ≡ front ++ (string ++ ((parts ++ others) ++ rest))
regrouped front string parts others rest whole e =
    let grouped : ((front ++ (string ++ parts)) ++ others) ++ rest ≡ front ++ (string ++ ((parts ++ others) ++ rest)) = simp append_assoc in
    ap (λ (t : List ℕ). (t ++ others) ++ rest) e ∙ grouped

begun_by : (x : Item) (xs : List Item) (bytes rest : List ℕ) (owed : ℕ) → Opened x → length xs ≡ owed → AllByRecursion IsFramed xs → bytes ≡ (encoding x ++ joined (map encoding xs)) ++ rest → Began bytes owed rest
begun_by x xs bytes rest owed o n h e =
    let front = head_bytes o.head.major o.head.arg in
    let string = o.string in
    let parts = joined (map encoding o.within) in
    let others = joined (map encoding xs) in
    let whole : bytes ≡ front ++ (string ++ (parts ++ (others ++ rest))) =
    e ∙ (regrouped front string parts others rest (encoding x) o.whole ∙ ap (λ (t : List ℕ). front ++ (string ++ t)) (append_assoc parts others rest)) in
    let together : (front ++ string) ++ (parts ++ (others ++ rest)) ≡ front ++ (string ++ (parts ++ (others ++ rest))) = append_assoc front string (parts ++ (others ++ rest)) in
    let seam : length (front ++ string) ≡ length front + string_behind o.head = omega (arith, length-append front string, o.long) in
    let behind : drop (length front + string_behind o.head) bytes ≡ parts ++ (others ++ rest) =
    ap (λ (t : List ℕ). drop (length front + string_behind o.head) t) (whole ∙ sym together) ∙ drop_at (front ++ string) (parts ++ (others ++ rest)) (length front + string_behind o.head) seam in
    let texts : parts ++ (others ++ rest) ≡ joined (map encoding (o.within ++ xs)) ++ rest = sym (append_assoc parts others rest) ∙ ap (λ (t : List ℕ). t ++ rest) (sym (joined_append o.within xs)) in
    let long : length bytes ≡ length front + (length string + (length parts + length (others ++ rest))) =
    omega (arith, ap length whole, length-append front (string ++ (parts ++ (others ++ rest))), length-append string (parts ++ (others ++ rest)), length-append parts (others ++ rest)) in
    record {
      head = o.head;
      size = length front;
      some = head_long o.head.major o.head.arg;
      read = ap head_at whole ∙ head_again o.head.major o.head.arg (string ++ (parts ++ (others ++ rest))) o.writable;
      room = omega (arith, long, o.long, o.count, least_enough o.head, items_long o.within o.framed);
      more = record {
        items = o.within ++ xs;
        many = omega (arith, length-append o.within xs, o.count, n);
        framed = all_append o.within xs o.framed h;
        whole = behind ∙ texts;
      };
    }

begins_by : (items : List Item) (bytes rest : List ℕ) (owed : ℕ) → length items ≡ suc owed → AllByRecursion IsFramed items → bytes ≡ joined (map encoding items) ++ rest → Began bytes owed rest
begins_by [] bytes rest owed n h e = absurd (omega arith)
begins_by (x ∷ xs) bytes rest owed n h e = begun_by x xs bytes rest owed (opened x h.0) (omega arith) h.1 e

pub begins : (bytes : List ℕ) (owed : ℕ) (rest : List ℕ) → Owes bytes (suc owed) rest → Began bytes owed rest
begins bytes owed rest h = begins_by h.items bytes rest owed h.many h.framed h.whole

rewhole : (bytes front behind string parts others rest whole : List ℕ) → bytes ≡ front ++ behind → behind ≡ string ++ ((parts ++ others) ++ rest) → whole ≡ front ++ (string ++ parts) → bytes ≡ (whole ++ others) ++ rest
rewhole bytes front behind string parts others rest whole e h k = e ∙ (ap (λ (l : List ℕ). front ++ l) h ∙ sym (regrouped front string parts others rest whole k))

-- and the other way round
pub goes_on : (bytes : List ℕ) (owed : ℕ) (rest : List ℕ) (head : Head) (size : ℕ) → IsBytes bytes → head_at bytes ≡ Ok (head, size) → size + string_behind head ≤ length bytes →
    Owes (drop (size + string_behind head) bytes) (owed + inside head) rest → Owes bytes (suc owed) rest
goes_on bytes owed rest head size fits read room more =
    let t = head_takes bytes head size fits read in
    let front = head_bytes head.major head.arg in
    let behind = drop size bytes in
    let string = take (string_behind head) behind in
    let long : length string ≡ string_behind head = length-take-le (string_behind head) behind (omega (arith, length-drop size bytes)) in
    let s = split (inside head) owed more.items (omega (arith, more.many)) more.framed in
    let c = closes head.major head.arg string s.front t.writable long s.front_long s.front_framed in
    let parts = joined (map encoding s.front) in
    let others = joined (map encoding s.back) in
    let texts : joined (map encoding more.items) ≡ parts ++ others = ap (λ (l : List Item). joined (map encoding l)) s.is ∙ joined_append s.front s.back in
    let last : drop (string_behind head) behind ≡ (parts ++ others) ++ rest = drop-drop (string_behind head) size bytes ∙ (more.whole ∙ ap (λ (l : List ℕ). l ++ rest) texts) in
    let after : behind ≡ string ++ ((parts ++ others) ++ rest) = sym (take-append-drop (string_behind head) behind) ∙ ap (λ (l : List ℕ). string ++ l) last in
    record {
      items = c.item ∷ s.back;
      many = ap suc s.back_long;
      framed = (c.framed, s.back_framed);
      whole = rewhole bytes front behind string parts others rest (encoding c.item) t.whole after c.whole;
    }

-- ---- only one way

pub once : (fuel : ℕ) (bytes : List ℕ) (owed : ℕ) (r s : List ℕ) → length bytes < fuel → Owes bytes owed r → Owes bytes owed s → r ≡ s
once zero bytes owed r s lt x y = absurd (omega arith)
once (suc fuel) bytes zero r s lt x y = sym (owes_none bytes r x) ∙ owes_none bytes s y
once (suc fuel) bytes (suc owed) r s lt x y =
    let a = begins bytes owed r x in
    let b = begins bytes owed s y in
    let same = same_read b.head a.head b.size a.size (sym b.read ∙ a.read) in
    let there : Owes (drop (a.size + string_behind a.head) bytes) (owed + inside a.head) s = rw same.1 at (rw same.0 at b.more) in
    once fuel (drop (a.size + string_behind a.head) bytes) (owed + inside a.head) r s (omega (arith, length-drop (a.size + string_behind a.head) bytes, a.some, a.room)) a.more there

pub framed_end_once : FramedEndOnce
framed_end_once i j x y h k e =
    once (suc (length (encoding i ++ x))) (encoding i ++ x) 1 x y (omega arith) (one_owed (encoding i ++ x) x i h refl) (one_owed (encoding i ++ x) y j k e)
