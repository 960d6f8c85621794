-- What the functions that write heads do, and that they are valid behind any items.
use Rattle.std.proofs.Common.{◌≡◌, ℕ, suc, ◌+◌, ◌*◌, ◌/◌, ◌%◌, ◌^◌, ◌<◌, List, [], ◌∷◌, ◌++◌, length, refl, ap, sym, subst, ◌∙◌, arith, true, append-nil, rules}
use Rattle.std.specs.Prelude.{codes, nat_lt, bytes_eq}
use Rattle.std.specs.Int.{Width, w16, w32, w64, byte_len, to_be_bytes}
use Rattle.std.proofs.lemmas.Bool.{ltb-true, ltb-false}
use Rattle.std.proofs.Math.Nat.{mod-eq_of_lt}
use denote.Hole.Carrier.{hidden}
use Rattle.ecd_cast.specs.declared.tree.Expr.TheBlock as exprs
use Rattle.ecd_cast.specs.declared.tree.Stmt.TheBlock as stmts
use Rattle.ecd_cast.specs.declared.tree.CItem.{CItem}
use Rattle.ecd_cast.specs.declared.tree.CItem.TheVariants.{Function as AFunction}
use Rattle.ecd_cast.specs.declared.value.Value.TheVariants.{Number as Num, Bytes as Ptr}
use Rattle.ecd_cast.specs.Memory.{Name, Memory, Event, WritesByte}
use Rattle.ecd_cast.specs.Expressions.{Frame, Scopes, lookup, given, Gives, modulus}
use Rattle.ecd_cast.specs.Meaning.{Calls, called, calls_of}
use Rattle.ecd_cast.specs.Validity.{IsValidAfter}
use Rattle.ecd_cast.specs.Spelling.{IsSpelledItem}
use Rattle.ecd_calculus.specs.Ends.{Answers, Does}
use Rattle.ecd_calculus.proofs.Rules.{return_rule, guard_rule, called_rule}
use Rattle.ecd_head.specs.Head.{head_bytes}
use Rattle.ecd_head.proofs.Heads.{head_bytes-1, head_bytes-2, head_bytes-3, head_bytes-5, head_bytes-9}
use Rattle.ecd_emit.specs.Variables as v
use Rattle.ecd_emit.specs.Writes.{Room, puts, storing}
use Rattle.ecd_fixed_bytes.specs.HeadWriter.{head_length, store_be16, store_be32, store_be64, put_head, put_1, put_2, put_wide, put_functions, put_names, HeadLength, StoresNumber, WritesHead}
use Rattle.ecd_emit.specs.Among.{AreNew, IsAmong}
use Rattle.ecd_fixed_bytes.specs.Standing.{HeadWriterIsThere, HeadWriterMeans}
use Rattle.ecd_emit.proofs.Windows.{small}
use Rattle.ecd_emit.specs.Among.{IsFree}
use Rattle.ecd_emit.proofs.Placed.{placed_last, kept, free_behind, among}
use Rattle.ecd_emit.proofs.Writing.{Writes, writes_within, writes_as, return_writes, let_writes, store_writes, call_writes, if_writes, called_writes, puts-append, room_part, room_after}

-- ---- the length of a head

pub length_answers : (calls : Calls) (k major a : ℕ) (m : Memory) → Answers (called calls k head_length (Num a ∷ []) m) (λ n. n ≡ length (head_bytes major a)) 9
unfolding head_length exprs.shape-the_row-Expr-0 exprs.hidden-the_row-Expr-0 hidden
length_answers calls k major a m = called_rule calls m k head_length (Num a ∷ []) (λ n. n ≡ length (head_bytes major a)) 9 (
    guard_rule (nat_lt a 24) 1 (record { tells = refl }) (record { is = refl }) (λ h. rw (head_bytes-1 major a (ltb-true a 24 h)) refl) (λ h1.
    let g1 = ltb-false a 24 h1 in
    guard_rule (nat_lt a 256) 2 (record { tells = refl }) (record { is = refl }) (λ h. rw (head_bytes-2 major a g1 (ltb-true a 256 h)) refl) (λ h2.
    let g2 = ltb-false a 256 h2 in
    guard_rule (nat_lt a 65536) 3 (record { tells = refl }) (record { is = refl }) (λ h. rw (head_bytes-3 major a g2 (ltb-true a 65536 h)) refl) (λ h3.
    let g3 = ltb-false a 65536 h3 in
    guard_rule (nat_lt a 4294967296) 5 (record { tells = refl }) (record { is = refl }) (λ h. rw (head_bytes-5 major a g3 (ltb-true a 4294967296 h)) refl) (λ h4.
    let g4 = ltb-false a 4294967296 h4 in
    return_rule {n = 9} (record { is = refl }) (rw (head_bytes-9 major a g4) refl))))))

-- ---- numbers

-- a number's bytes are those of its two halves
halves_32 : (n : ℕ) → to_be_bytes w32 n ≡ to_be_bytes w16 (n / 65536) ++ to_be_bytes w16 n
halves_32 n =
    let a : n / 65536 / 256 % 256 ≡ n / 16777216 % 256 = omega arith in
    rw a refl

halves_64 : (n : ℕ) → to_be_bytes w64 n ≡ to_be_bytes w32 (n / 4294967296) ++ to_be_bytes w32 n
halves_64 n =
    let a : n / 4294967296 / 16777216 % 256 ≡ n / 72057594037927936 % 256 = omega arith in
    let b : n / 4294967296 / 65536 % 256 ≡ n / 281474976710656 % 256 = omega arith in
    let c : n / 4294967296 / 256 % 256 ≡ n / 1099511627776 % 256 = omega arith in
    rw (a, b, c) refl

module _ (calls : Calls) (k block offset at n : ℕ) (m : Memory) where
  pub be16_stores : Room m block offset at 2 → Does (called calls k store_be16 (storing block offset at n) m) (at + 2) (puts block (offset + at) (to_be_bytes w16 n)) 3
  unfolding store_be16 exprs.shape-the_row-Expr-0 exprs.hidden-the_row-Expr-0 hidden
  be16_stores r =
      let next : (at + 1) % modulus ≡ at + 1 = small (at + 1) (omega (arith, r.short)) in
      let last : (at + 2) % modulus ≡ at + 2 = small (at + 2) (omega (arith, r.short)) in
      let s = room_after r (offset + at) (n / 256 % 256 ∷ []) in
      called_writes calls m k store_be16 (storing block offset at n) (at + 2) (puts block (offset + at) (to_be_bytes w16 n)) 3 (
      store_writes block offset at (n / 256) (offset + at) (n / 256 % 256) r.whole refl (record { is = refl }) (record { is = refl }) r.there refl (omega (arith, r.fits)) refl (
      store_writes block offset (at + 1) n (offset + at + 1) (n % 256) s.whole refl (record { is = rw next refl }) (record { is = refl }) s.there (omega arith) (omega (arith, s.fits)) refl (
      return_writes (record { is = rw last refl }))))

  pub be32_stores : StoresNumber w16 3 (calls (codes "store_be16")) → Room m block offset at 4 → Does (called calls k store_be32 (storing block offset at n) m) (at + 4) (puts block (offset + at) (to_be_bytes w32 n)) 9
  unfolding store_be32 exprs.shape-the_row-Expr-0 exprs.hidden-the_row-Expr-0 hidden
  be32_stores part r =
      let high : List ℕ = to_be_bytes w16 (n / 65536) in
      let low : List ℕ = to_be_bytes w16 n in
      let behind : offset + (at + 2) ≡ offset + at + 2 = omega arith in
      let end : at + 2 + 2 ≡ at + 4 = omega arith in
      let all : puts block (offset + at) high ++ (puts block (offset + (at + 2)) low ++ []) ≡ puts block (offset + at) (to_be_bytes w32 n) =
      ap (λ us. puts block (offset + at) high ++ us) (append-nil (puts block (offset + (at + 2)) low) ∙ ap (λ (x : ℕ). puts block x low) behind) ∙ (sym (puts-append block (offset + at) high low) ∙ sym (ap (puts block (offset + at)) (halves_32 n))) in
      called_writes calls m k store_be32 (storing block offset at n) (at + 4) (puts block (offset + at) (to_be_bytes w32 n)) 9 (
      writes_as end all (
      call_writes {c = 3} {k = 5} (Ptr block offset ∷ Num at ∷ Num (n / 65536) ∷ []) (at + 2) (puts block (offset + at) high) (record { hands = λ p f. refl }) (part.writes block offset at (n / 65536) m (room_part r at 2 (omega arith) (omega arith))) (
      call_writes {c = 3} {k = 1} (Ptr block offset ∷ Num (at + 2) ∷ Num n ∷ []) (at + 2 + 2) (puts block (offset + (at + 2)) low) (record { hands = λ p f. refl })
      (part.writes block offset (at + 2) n _ (room_part (room_after r (offset + at) high) (at + 2) 2 (omega arith) (omega arith))) (
      return_writes (record { is = refl })))))

  pub be64_stores : StoresNumber w32 9 (calls (codes "store_be32")) → Room m block offset at 8 → Does (called calls k store_be64 (storing block offset at n) m) (at + 8) (puts block (offset + at) (to_be_bytes w64 n)) 21
  unfolding store_be64 exprs.shape-the_row-Expr-0 exprs.hidden-the_row-Expr-0 hidden
  be64_stores part r =
      let high : List ℕ = to_be_bytes w32 (n / 4294967296) in
      let low : List ℕ = to_be_bytes w32 n in
      let behind : offset + (at + 4) ≡ offset + at + 4 = omega arith in
      let end : at + 4 + 4 ≡ at + 8 = omega arith in
      let all : puts block (offset + at) high ++ (puts block (offset + (at + 4)) low ++ []) ≡ puts block (offset + at) (to_be_bytes w64 n) =
      ap (λ us. puts block (offset + at) high ++ us) (append-nil (puts block (offset + (at + 4)) low) ∙ ap (λ (x : ℕ). puts block x low) behind) ∙ (sym (puts-append block (offset + at) high low) ∙ sym (ap (puts block (offset + at)) (halves_64 n))) in
      called_writes calls m k store_be64 (storing block offset at n) (at + 8) (puts block (offset + at) (to_be_bytes w64 n)) 21 (
      writes_as end all (
      call_writes {c = 9} {k = 11} (Ptr block offset ∷ Num at ∷ Num (n / 4294967296) ∷ []) (at + 4) (puts block (offset + at) high) (record { hands = λ p f. refl }) (part.writes block offset at (n / 4294967296) m (room_part r at 4 (omega arith) (omega arith))) (
      call_writes {c = 9} {k = 1} (Ptr block offset ∷ Num (at + 4) ∷ Num n ∷ []) (at + 4 + 4) (puts block (offset + (at + 4)) low) (record { hands = λ p f. refl })
      (part.writes block offset (at + 4) n _ (room_part (room_after r (offset + at) high) (at + 4) 4 (omega arith) (omega arith))) (
      return_writes (record { is = refl })))))

-- ---- heads

module _ (calls : Calls) (block offset at major a : ℕ) (m : Memory) (known : major < 8) where
  abbrev scopes : Scopes
  scopes = ((v.high, Num (major * 32)) ∷ (v.out, Ptr block offset) ∷ (v.at, Num at) ∷ (v.major, Num major) ∷ (v.argument, Num a) ∷ []) ∷ []

  -- the first byte
  first_fits : (low : ℕ) → low < 32 → (major * 32 + low) % 256 ≡ 32 * major + low
  first_fits low lt = let swap : major * 32 + low ≡ 32 * major + low = omega arith in mod-eq_of_lt (omega arith) ∙ swap

  puts_1 : a < 24 → Room m block offset at 1 → Writes calls m put_1 ([] ∷ scopes) (at + 1) (puts block (offset + at) ((32 * major + a) ∷ [])) 2
  unfolding exprs.shape-the_row-Expr-0 exprs.hidden-the_row-Expr-0 hidden
  puts_1 lt r =
      let sum : (major * 32 + a) % modulus ≡ major * 32 + a = small (major * 32 + a) (omega arith) in
      let last : (at + 1) % modulus ≡ at + 1 = small (at + 1) (omega (arith, r.short)) in
      store_writes block offset at (major * 32 + a) (offset + at) (32 * major + a) r.whole refl (record { is = refl }) (record { is = rw sum refl }) r.there refl (omega (arith, r.fits)) (first_fits a (omega arith)) (
      return_writes (record { is = rw last refl }))

  puts_2 : a < 256 → Room m block offset at 2 → Writes calls m put_2 ([] ∷ scopes) (at + 2) (puts block (offset + at) ((32 * major + 24) ∷ a ∷ [])) 3
  unfolding exprs.shape-the_row-Expr-0 exprs.hidden-the_row-Expr-0 hidden
  puts_2 lt r =
      let sum : (major * 32 + 24) % modulus ≡ major * 32 + 24 = small (major * 32 + 24) (omega arith) in
      let next : (at + 1) % modulus ≡ at + 1 = small (at + 1) (omega (arith, r.short)) in
      let last : (at + 2) % modulus ≡ at + 2 = small (at + 2) (omega (arith, r.short)) in
      let s = room_after r (offset + at) ((32 * major + 24) ∷ []) in
      store_writes block offset at (major * 32 + 24) (offset + at) (32 * major + 24) r.whole refl (record { is = refl }) (record { is = rw sum refl }) r.there refl (omega (arith, r.fits)) (first_fits 24 (omega arith)) (
      store_writes block offset (at + 1) a (offset + at + 1) a s.whole refl (record { is = rw next refl }) (record { is = refl }) s.there (omega arith) (omega (arith, s.fits)) (mod-eq_of_lt lt) (
      return_writes (record { is = rw last refl })))

  puts_wide : (w : Width) (info c : ℕ) (x g : Name) (f : Frame) (fs : Scopes) → info < 32 → bytes_eq x x ≡ true →
      given (lookup (f ∷ fs) v.out) ≡ Gives (Ptr block offset) → given (lookup (f ∷ fs) v.at) ≡ Gives (Num at) → given (lookup (f ∷ fs) v.high) ≡ Gives (Num (major * 32)) → given (lookup (f ∷ fs) v.argument) ≡ Gives (Num a) →
      StoresNumber w c (calls g) → Room m block offset at (1 + byte_len w) →
      Writes calls m (put_wide info x g) (f ∷ fs) (at + (1 + byte_len w)) (puts block (offset + at) ((32 * major + info) ∷ to_be_bytes w a)) (suc (suc (c + 1)))
  unfolding exprs.shape-the_row-Expr-0 exprs.hidden-the_row-Expr-0 hidden
  puts_wide w info c x g f fs lt same out place high argument part r =
      let byte : ℕ = 32 * major + info in
      let sum : (major * 32 + info) % modulus ≡ major * 32 + info = small (major * 32 + info) (omega arith) in
      let next : (at + 1) % modulus ≡ at + 1 = small (at + 1) (omega (arith, r.short)) in
      let s = room_part (room_after r (offset + at) (byte ∷ [])) (at + 1) (byte_len w) (omega arith) (omega arith) in
      let behind : offset + (at + 1) ≡ offset + at + 1 = omega arith in
      let end : at + 1 + byte_len w ≡ at + (1 + byte_len w) = omega arith in
      let rest : List Event = puts block (offset + (at + 1)) (to_be_bytes w a) in
      let all : WritesByte block (offset + at) byte ∷ (rest ++ []) ≡ puts block (offset + at) (byte ∷ to_be_bytes w a) =
      ap (λ us. WritesByte block (offset + at) byte ∷ us) (append-nil rest ∙ ap (λ (k : ℕ). puts block k (to_be_bytes w a)) behind) in
      writes_as end all (
      store_writes block offset at (major * 32 + info) (offset + at) byte r.whole out (record { is = place }) (record { is = rw (high, sum) refl }) r.there refl (omega (arith, r.fits)) (first_fits info lt) (
      call_writes {c = c} {k = 1} (Ptr block offset ∷ Num (at + 1) ∷ Num a ∷ []) (at + 1 + byte_len w) rest (record { hands = λ p h. rw (out, place, next, argument) refl }) (part.writes block offset (at + 1) a _ s) (
      return_writes (record { is = rw same refl }))))

  abbrev Done : List ℕ → Type 0
  Done bytes = Room m block offset at (length bytes)

  pub head_writes : (k : ℕ) → a < 2 ^ 64 → StoresNumber w16 3 (calls (codes "store_be16")) → StoresNumber w32 9 (calls (codes "store_be32")) → StoresNumber w64 21 (calls (codes "store_be64")) → Done (head_bytes major a) →
      Does (called calls k put_head (Ptr block offset ∷ Num at ∷ Num major ∷ Num a ∷ []) m) (at + length (head_bytes major a)) (puts block (offset + at) (head_bytes major a)) 29
  unfolding put_head exprs.shape-the_row-Expr-0 exprs.hidden-the_row-Expr-0 hidden
  head_writes k fits be16 be32 be64 room =
      let shift : (major * 32) % modulus ≡ major * 32 = small (major * 32) (omega arith) in
      called_writes calls m k put_head (Ptr block offset ∷ Num at ∷ Num major ∷ Num a ∷ []) (at + length (head_bytes major a)) (puts block (offset + at) (head_bytes major a)) 29 (
      let_writes {j = major * 32} (record { is = rw shift refl }) (
      if_writes {k = 27} (nat_lt a 24) (record { tells = refl })
      (λ h.
      let is = head_bytes-1 major a (ltb-true a 24 h) in
      writes_within 2 27 (omega arith) (subst (λ (bytes : List ℕ). Writes calls m put_1 ([] ∷ scopes) (at + length bytes) (puts block (offset + at) bytes) 2) (sym is) (puts_1 (ltb-true a 24 h) (subst Done is room)))) (λ h1.
      let g1 = ltb-false a 24 h1 in
      if_writes {k = 26} (nat_lt a 256) (record { tells = refl })
      (λ h.
      let is = head_bytes-2 major a g1 (ltb-true a 256 h) in
      writes_within 3 26 (omega arith) (subst (λ (bytes : List ℕ). Writes calls m put_2 ([] ∷ scopes) (at + length bytes) (puts block (offset + at) bytes) 3) (sym is) (puts_2 (ltb-true a 256 h) (subst Done is room)))) (λ h2.
      let g2 = ltb-false a 256 h2 in
      if_writes {k = 25} (nat_lt a 65536) (record { tells = refl })
      (λ h.
      let is = head_bytes-3 major a g2 (ltb-true a 65536 h) in
      writes_within 6 25 (omega arith) (subst (λ (bytes : List ℕ). Writes calls m (put_wide 25 v.end16 (codes "store_be16")) ([] ∷ scopes) (at + length bytes) (puts block (offset + at) bytes) 6) (sym is)
      (puts_wide w16 25 3 v.end16 (codes "store_be16") [] scopes (omega arith) refl refl refl refl refl be16 (subst Done is room)))) (λ h3.
      let g3 = ltb-false a 65536 h3 in
      if_writes {k = 24} (nat_lt a 4294967296) (record { tells = refl })
      (λ h.
      let is = head_bytes-5 major a g3 (ltb-true a 4294967296 h) in
      writes_within 12 24 (omega arith) (subst (λ (bytes : List ℕ). Writes calls m (put_wide 26 v.end32 (codes "store_be32")) ([] ∷ scopes) (at + length bytes) (puts block (offset + at) bytes) 12) (sym is)
      (puts_wide w32 26 9 v.end32 (codes "store_be32") [] scopes (omega arith) refl refl refl refl refl be32 (subst Done is room)))) (λ h4.
      let is = head_bytes-9 major a (ltb-false a 4294967296 h4) in
      subst (λ (bytes : List ℕ). Writes calls m (put_wide 27 v.end64 (codes "store_be64")) scopes (at + length bytes) (puts block (offset + at) bytes) 24) (sym is)
      (puts_wide w64 27 21 v.end64 (codes "store_be64") ((v.high, Num (major * 32)) ∷ (v.out, Ptr block offset) ∷ (v.at, Num at) ∷ (v.major, Num major) ∷ (v.argument, Num a) ∷ []) [] (omega arith) refl refl refl refl refl be64 (subst Done is room))))))))

-- ---- behind any items

abbrev pub first_1 : List CItem
first_1 = AFunction head_length ∷ []

abbrev pub first_2 : List CItem
first_2 = AFunction head_length ∷ AFunction store_be16 ∷ []

abbrev pub first_3 : List CItem
first_3 = AFunction head_length ∷ AFunction store_be16 ∷ AFunction store_be32 ∷ []

abbrev pub first_4 : List CItem
first_4 = AFunction head_length ∷ AFunction store_be16 ∷ AFunction store_be32 ∷ AFunction store_be64 ∷ []

length_item : (before : List CItem) → IsFree (codes "head_length") before → IsValidAfter before (AFunction head_length)
unfolding head_length exprs.shape-the_row-Expr-0 exprs.hidden-the_row-Expr-0 hidden stmts.shape-the_row-Stmt-0 stmts.hidden-the_row-Stmt-0
length_item before free = record { sound = rw free refl }

be16_item : (before : List CItem) → IsFree (codes "store_be16") before → IsValidAfter before (AFunction store_be16)
unfolding store_be16 exprs.shape-the_row-Expr-0 exprs.hidden-the_row-Expr-0 hidden stmts.shape-the_row-Stmt-0 stmts.hidden-the_row-Stmt-0
be16_item before free = record { sound = rw free refl }

be32_item : (before : List CItem) → IsFree (codes "store_be32") before → IsAmong store_be16 before → IsValidAfter before (AFunction store_be32)
unfolding store_be16 store_be32 exprs.shape-the_row-Expr-0 exprs.hidden-the_row-Expr-0 hidden stmts.shape-the_row-Stmt-0 stmts.hidden-the_row-Stmt-0
be32_item before free part = record { sound = rw (free, part) refl }

be64_item : (before : List CItem) → IsFree (codes "store_be64") before → IsAmong store_be32 before → IsValidAfter before (AFunction store_be64)
unfolding store_be32 store_be64 exprs.shape-the_row-Expr-0 exprs.hidden-the_row-Expr-0 hidden stmts.shape-the_row-Stmt-0 stmts.hidden-the_row-Stmt-0
be64_item before free part = record { sound = rw (free, part) refl }

head_item : (before : List CItem) → IsFree (codes "put_head") before → IsAmong store_be16 before → IsAmong store_be32 before → IsAmong store_be64 before → IsValidAfter before (AFunction put_head)
unfolding store_be16 store_be32 store_be64 put_head exprs.shape-the_row-Expr-0 exprs.hidden-the_row-Expr-0 hidden stmts.shape-the_row-Stmt-0 stmts.hidden-the_row-Stmt-0
head_item before free be16 be32 be64 = record { sound = rw (free, be16, be32, be64) refl }

pub length_spelled : IsSpelledItem (AFunction head_length)
unfolding head_length exprs.shape-the_row-Expr-0 exprs.hidden-the_row-Expr-0 hidden stmts.shape-the_row-Stmt-0 stmts.hidden-the_row-Stmt-0
length_spelled = search rules

pub be16_spelled : IsSpelledItem (AFunction store_be16)
unfolding store_be16 exprs.shape-the_row-Expr-0 exprs.hidden-the_row-Expr-0 hidden stmts.shape-the_row-Stmt-0 stmts.hidden-the_row-Stmt-0
be16_spelled = search rules

pub be32_spelled : IsSpelledItem (AFunction store_be32)
unfolding store_be32 exprs.shape-the_row-Expr-0 exprs.hidden-the_row-Expr-0 hidden stmts.shape-the_row-Stmt-0 stmts.hidden-the_row-Stmt-0
be32_spelled = search rules

pub be64_spelled : IsSpelledItem (AFunction store_be64)
unfolding store_be64 exprs.shape-the_row-Expr-0 exprs.hidden-the_row-Expr-0 hidden stmts.shape-the_row-Stmt-0 stmts.hidden-the_row-Stmt-0
be64_spelled = search rules

pub head_spelled : IsSpelledItem (AFunction put_head)
unfolding put_head exprs.shape-the_row-Expr-0 exprs.hidden-the_row-Expr-0 hidden stmts.shape-the_row-Stmt-0 stmts.hidden-the_row-Stmt-0
head_spelled = search rules

module _ (old : List CItem) where
  length_means : HeadLength (calls_of (old ++ first_1) (codes "head_length"))
  unfolding head_length
  length_means = placed_last HeadLength old [] head_length (record { answers = λ major a m. length_answers (calls_of (old ++ [])) (0 + length (old ++ [])) major a m })

  be16_means : StoresNumber w16 3 (calls_of (old ++ first_2) (codes "store_be16"))
  unfolding store_be16
  be16_means = placed_last (StoresNumber w16 3) old first_1 store_be16 (record { writes = λ block offset at n m r. be16_stores (calls_of (old ++ first_1)) (0 + length (old ++ first_1)) block offset at n m r })

  be32_means : StoresNumber w32 9 (calls_of (old ++ first_3) (codes "store_be32"))
  unfolding store_be32
  be32_means = placed_last (StoresNumber w32 9) old first_2 store_be32 (record { writes = λ block offset at n m r. be32_stores (calls_of (old ++ first_2)) (0 + length (old ++ first_2)) block offset at n m be16_means r })

  be64_means : StoresNumber w64 21 (calls_of (old ++ first_4) (codes "store_be64"))
  unfolding store_be64
  be64_means = placed_last (StoresNumber w64 21) old first_3 store_be64 (record { writes = λ block offset at n m r. be64_stores (calls_of (old ++ first_3)) (0 + length (old ++ first_3)) block offset at n m be32_means r })

  head_means : WritesHead (calls_of (old ++ put_functions) (codes "put_head"))
  unfolding put_head store_be32 store_be64
  head_means =
      let before : List CItem = old ++ first_4 in
      let be16 = kept (StoresNumber w16 3) old first_2 (AFunction store_be32 ∷ AFunction store_be64 ∷ []) (codes "store_be16") (refl, (refl, tt)) be16_means in
      let be32 = kept (StoresNumber w32 9) old first_3 (AFunction store_be64 ∷ []) (codes "store_be32") (refl, tt) be32_means in
      placed_last WritesHead old first_4 put_head (record { writes = λ block offset at major a m known fits r. head_writes (calls_of before) block offset at major a m known (0 + length before) fits be16 be32 be64_means r })

  pub writer_means : HeadWriterMeans (old ++ put_functions)
  unfolding store_be16 store_be32 store_be64 put_head
  writer_means = record {
    length = kept HeadLength old first_1 (AFunction store_be16 ∷ AFunction store_be32 ∷ AFunction store_be64 ∷ AFunction put_head ∷ []) (codes "head_length") (refl, (refl, (refl, (refl, tt)))) length_means;
    be16 = kept (StoresNumber w16 3) old first_2 (AFunction store_be32 ∷ AFunction store_be64 ∷ AFunction put_head ∷ []) (codes "store_be16") (refl, (refl, (refl, tt))) be16_means;
    be32 = kept (StoresNumber w32 9) old first_3 (AFunction store_be64 ∷ AFunction put_head ∷ []) (codes "store_be32") (refl, (refl, tt)) be32_means;
    be64 = kept (StoresNumber w64 21) old first_4 (AFunction put_head ∷ []) (codes "store_be64") (refl, tt) be64_means;
    head = head_means;
  }

module _ (old : List CItem) (new : AreNew put_names old) where
  pub length_valid : IsValidAfter (old ++ []) (AFunction head_length)
  length_valid = length_item (old ++ []) (free_behind old [] (codes "head_length") new.0 tt)

  pub be16_valid : IsValidAfter (old ++ first_1) (AFunction store_be16)
  unfolding head_length
  be16_valid = be16_item (old ++ first_1) (free_behind old first_1 (codes "store_be16") new.1.0 (refl, tt))

  pub be32_valid : IsValidAfter (old ++ first_2) (AFunction store_be32)
  unfolding head_length store_be16
  be32_valid = be32_item (old ++ first_2) (free_behind old first_2 (codes "store_be32") new.1.1.0 (refl, (refl, tt))) (among old first_2 store_be16 (codes "store_be16") refl new.1.0 refl)

  pub be64_valid : IsValidAfter (old ++ first_3) (AFunction store_be64)
  unfolding head_length store_be16 store_be32
  be64_valid = be64_item (old ++ first_3) (free_behind old first_3 (codes "store_be64") new.1.1.1.0 (refl, (refl, (refl, tt)))) (among old first_3 store_be32 (codes "store_be32") refl new.1.1.0 refl)

  pub head_valid : IsValidAfter (old ++ first_4) (AFunction put_head)
  unfolding head_length store_be16 store_be32 store_be64
  head_valid = head_item (old ++ first_4) (free_behind old first_4 (codes "put_head") new.1.1.1.1.0 (refl, (refl, (refl, (refl, tt)))))
      (among old first_4 store_be16 (codes "store_be16") refl new.1.0 refl) (among old first_4 store_be32 (codes "store_be32") refl new.1.1.0 refl) (among old first_4 store_be64 (codes "store_be64") refl new.1.1.1.0 refl)

  pub writer_is_there : HeadWriterIsThere (old ++ put_functions)
  unfolding head_length store_be16 store_be32 store_be64 put_head
  writer_is_there = record {
    length = among old put_functions head_length (codes "head_length") refl new.0 refl;
    be16 = among old put_functions store_be16 (codes "store_be16") refl new.1.0 refl;
    be32 = among old put_functions store_be32 (codes "store_be32") refl new.1.1.0 refl;
    be64 = among old put_functions store_be64 (codes "store_be64") refl new.1.1.1.0 refl;
    head = among old put_functions put_head (codes "put_head") refl new.1.1.1.1.0 refl;
  }
