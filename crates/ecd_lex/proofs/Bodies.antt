-- What stands between quotes, piece by piece.
use Rattle.std.proofs.Common.{◌≡◌, ℕ, ◌+◌, ◌*◌, ◌<◌, ◌≤◌, Bool, true, false, ◌&&◌, List, [], ◌∷◌, ◌++◌, length, drop, get_or, refl, sym, ◌∙◌, ap, arith, add-zero, zero-add, add_assoc, append_assoc, append-nil, Option, Some, None, Result, Ok, Err, cond, eqb}
use Rattle.std.specs.Prelude.{if◌then◌else◌, ◌==◌}
use Rattle.std.specs.Char.{encode_utf8}
use Rattle.std.proofs.lemmas.List.{at_drop_more, at_drop_all, get_or-drop, drop-drop, length-drop}
use Rattle.ecd_lex.specs.declared.character.Radix.TheVariants.{Hexadecimal}
use Rattle.ecd_lex.specs.Characters.{is_digit, is_decimal, digit_value}
use Rattle.ecd_lex.specs.Forms.{decoded, escaped, coded, with_front, with_escape, escape_of, is_unit, unit_of, are_hexadecimal, hex_after, is_hex_space}
use Rattle.ecd_lex.specs.Scan.{hex_digit}

and_false : (b : Bool) → (b && false) ≡ false
and_false true = refl
and_false false = refl

-- a front behind a front
pub front_front : (old new : List ℕ) (i n : ℕ) (read : Result (List ℕ) ℕ) → with_front old i (with_front new n read) ≡ with_front (old ++ new) (i + n) read
front_front old new i n (Ok bytes) = ap Ok (sym (append_assoc old new bytes))
front_front old new i n (Err offset) = ap Err (sym (add_assoc i n offset))

pub front_none : (read : Result (List ℕ) ℕ) → with_front [] 0 read ≡ read
front_none (Ok bytes) = refl
front_none (Err offset) = ap Err (zero-add offset)

by_unit : (a b c d : ℕ) → Result (List ℕ) ℕ → Result (List ℕ) ℕ
by_unit a b c d rest = if is_unit a b c d then with_front (encode_utf8 (unit_of a b c d)) 6 rest else Err 0

no_unit : (a b c d : ℕ) (rest : Result (List ℕ) ℕ) → is_unit a b c d ≡ false → by_unit a b c d rest ≡ Err 0
unfolding by_unit
no_unit a b c d rest e = rw e refl

zero_no_digit : is_digit Hexadecimal 0 ≡ false
unfolding is_digit is_decimal
zero_no_digit = refl

short_unit : (a b c : ℕ) → is_unit a b c 0 ≡ false
unfolding is_unit are_hexadecimal
short_unit a b c = simp (zero_no_digit, and_false) refl

coded_at : (quote : ℕ) (text : List ℕ) → coded quote text ≡ by_unit (get_or text 0 0) (get_or text 1 0) (get_or text 2 0) (get_or text 3 0) (decoded quote (drop 4 text))
unfolding decoded
coded_at quote [] = sym (no_unit 0 0 0 0 (decoded quote []) (short_unit 0 0 0))
coded_at quote (a ∷ []) = sym (no_unit a 0 0 0 (decoded quote []) (short_unit a 0 0))
coded_at quote (a ∷ b ∷ []) = sym (no_unit a b 0 0 (decoded quote []) (short_unit a b 0))
coded_at quote (a ∷ b ∷ c ∷ []) = sym (no_unit a b c 0 (decoded quote []) (short_unit a b c))
coded_at quote (a ∷ b ∷ c ∷ d ∷ text) = unfold by_unit in refl

escaped_at : (quote : ℕ) (text : List ℕ) → escaped quote text ≡
    (if get_or text 0 0 == 117 then by_unit (get_or text 1 0) (get_or text 2 0) (get_or text 3 0) (get_or text 4 0) (decoded quote (drop 5 text))
    else with_escape (escape_of quote (get_or text 0 0)) (decoded quote (drop 1 text)))
unfolding decoded escape_of
escaped_at quote [] = refl
escaped_at quote (c ∷ text) = ap (λ x. cond (eqb c 117) x (with_escape (escape_of quote c) (decoded quote text))) (coded_at quote text)

decoded_at : (quote : ℕ) (text : List ℕ) → 0 < length text → decoded quote text ≡
    (if get_or text 0 0 == 92 then (if get_or text 1 0 == 117 then by_unit (get_or text 2 0) (get_or text 3 0) (get_or text 4 0) (get_or text 5 0) (decoded quote (drop 6 text))
    else with_escape (escape_of quote (get_or text 1 0)) (decoded quote (drop 2 text)))
    else with_front (get_or text 0 0 ∷ []) 1 (decoded quote (drop 1 text)))
unfolding decoded
decoded_at quote [] h = absurd (omega arith)
decoded_at quote (c ∷ text) h = ap (λ x. cond (eqb c 92) x (with_front (c ∷ []) 1 (decoded quote text))) (escaped_at quote text)

-- the same at a place
decoded_turn : (quote : ℕ) (body : List ℕ) (i : ℕ) → i < length body → decoded quote (drop i body) ≡
    (if get_or body i 0 == 92 then (if get_or body (i + 1) 0 == 117 then by_unit (get_or body (i + 2) 0) (get_or body (i + 3) 0) (get_or body (i + 4) 0) (get_or body (i + 5) 0) (decoded quote (drop (i + 6) body))
    else with_escape (escape_of quote (get_or body (i + 1) 0)) (decoded quote (drop (i + 2) body)))
    else with_front (get_or body i 0 ∷ []) 1 (decoded quote (drop (i + 1) body)))
decoded_turn quote body i h =
    decoded_at quote (drop i body) (simp length-drop (omega arith))
    ∙ simp (get_or-drop, drop-drop, add-zero) refl

err_front : (old : List ℕ) (i : ℕ) (read : Result (List ℕ) ℕ) → read ≡ Err 0 → with_front old i read ≡ Err (i + 0)
err_front old i read e = ap (with_front old i) e

pub piece_plain : (quote : ℕ) (body old : List ℕ) (i : ℕ) → i < length body → eqb (get_or body i 0) 92 ≡ false →
    with_front old i (decoded quote (drop i body)) ≡ with_front (old ++ get_or body i 0 ∷ []) (i + 1) (decoded quote (drop (i + 1) body))
piece_plain quote body old i h e =
    ap (with_front old i) (decoded_turn quote body i h ∙ rw e refl)
    ∙ front_front old (get_or body i 0 ∷ []) i 1 (decoded quote (drop (i + 1) body))

pub piece_unit : (quote : ℕ) (body old : List ℕ) (i : ℕ) → i < length body → eqb (get_or body i 0) 92 ≡ true → eqb (get_or body (i + 1) 0) 117 ≡ true →
    is_unit (get_or body (i + 2) 0) (get_or body (i + 3) 0) (get_or body (i + 4) 0) (get_or body (i + 5) 0) ≡ true →
    with_front old i (decoded quote (drop i body))
    ≡ with_front (old ++ encode_utf8 (unit_of (get_or body (i + 2) 0) (get_or body (i + 3) 0) (get_or body (i + 4) 0) (get_or body (i + 5) 0))) (i + 6) (decoded quote (drop (i + 6) body))
unfolding by_unit
piece_unit quote body old i h e f u =
    ap (with_front old i) (decoded_turn quote body i h ∙ rw (e, f, u) refl)
    ∙ front_front old _ i 6 (decoded quote (drop (i + 6) body))

pub piece_no_unit : (quote : ℕ) (body old : List ℕ) (i : ℕ) → i < length body → eqb (get_or body i 0) 92 ≡ true → eqb (get_or body (i + 1) 0) 117 ≡ true →
    is_unit (get_or body (i + 2) 0) (get_or body (i + 3) 0) (get_or body (i + 4) 0) (get_or body (i + 5) 0) ≡ false →
    with_front old i (decoded quote (drop i body)) ≡ Err (i + 0)
unfolding by_unit
piece_no_unit quote body old i h e f u = err_front old i _ (decoded_turn quote body i h ∙ rw (e, f, u) refl)

pub piece_escape : (quote : ℕ) (body old : List ℕ) (i c : ℕ) → i < length body → eqb (get_or body i 0) 92 ≡ true → eqb (get_or body (i + 1) 0) 117 ≡ false →
    escape_of quote (get_or body (i + 1) 0) ≡ Some c →
    with_front old i (decoded quote (drop i body)) ≡ with_front (old ++ c ∷ []) (i + 2) (decoded quote (drop (i + 2) body))
piece_escape quote body old i c h e f u =
    ap (with_front old i) (decoded_turn quote body i h ∙ rw (e, f, u) refl)
    ∙ front_front old (c ∷ []) i 2 (decoded quote (drop (i + 2) body))

pub piece_no_escape : (quote : ℕ) (body old : List ℕ) (i : ℕ) → i < length body → eqb (get_or body i 0) 92 ≡ true → eqb (get_or body (i + 1) 0) 117 ≡ false →
    escape_of quote (get_or body (i + 1) 0) ≡ None →
    with_front old i (decoded quote (drop i body)) ≡ Err (i + 0)
piece_no_escape quote body old i h e f u = err_front old i _ (decoded_turn quote body i h ∙ rw (e, f, u) refl)

pub pieces_end : (quote : ℕ) (body old : List ℕ) (i : ℕ) → length body ≤ i → with_front old i (decoded quote (drop i body)) ≡ Ok old
unfolding decoded
pieces_end quote body old i h = ap (with_front old i) (at_drop_all (decoded quote) body i h) ∙ ap Ok (append-nil old)

-- ---- hexadecimal strings

pub hex_blank : (first : Option ℕ) (body old : List ℕ) (i : ℕ) → i < length body → is_hex_space (get_or body i 0) ≡ true →
    with_front old i (hex_after first (drop i body)) ≡ with_front old (i + 1) (hex_after first (drop (i + 1) body))
unfolding hex_after
hex_blank None body old i h e =
    ap (with_front old i) (at_drop_more (hex_after None) body i 0 h ∙ rw e refl)
    ∙ (front_front old [] i 1 (hex_after None (drop (i + 1) body)) ∙ rw (append-nil old) refl)
hex_blank (Some first) body old i h e =
    ap (with_front old i) (at_drop_more (hex_after (Some first)) body i 0 h ∙ rw e refl)
    ∙ (front_front old [] i 1 (hex_after (Some first) (drop (i + 1) body)) ∙ rw (append-nil old) refl)

pub hex_bad : (first : Option ℕ) (body old : List ℕ) (i : ℕ) → i < length body → is_hex_space (get_or body i 0) ≡ false →
    is_digit Hexadecimal (get_or body i 0) ≡ false → with_front old i (hex_after first (drop i body)) ≡ Err (i + 0)
unfolding hex_after
hex_bad None body old i h e f = err_front old i _ (at_drop_more (hex_after None) body i 0 h ∙ rw (e, f) refl)
hex_bad (Some first) body old i h e f = err_front old i _ (at_drop_more (hex_after (Some first)) body i 0 h ∙ rw (e, f) refl)

pub hex_first : (body old : List ℕ) (i : ℕ) → i < length body → is_hex_space (get_or body i 0) ≡ false →
    is_digit Hexadecimal (get_or body i 0) ≡ true →
    with_front old i (hex_after None (drop i body)) ≡ with_front old (i + 1) (hex_after (Some (digit_value (get_or body i 0))) (drop (i + 1) body))
unfolding hex_after
hex_first body old i h e f =
    ap (with_front old i) (at_drop_more (hex_after None) body i 0 h ∙ rw (e, f) refl)
    ∙ (front_front old [] i 1 (hex_after (Some (digit_value (get_or body i 0))) (drop (i + 1) body)) ∙ rw (append-nil old) refl)

pub hex_second : (first : ℕ) (body old : List ℕ) (i : ℕ) → i < length body → is_hex_space (get_or body i 0) ≡ false →
    is_digit Hexadecimal (get_or body i 0) ≡ true →
    with_front old i (hex_after (Some first) (drop i body)) ≡ with_front (old ++ (16 * first + digit_value (get_or body i 0)) ∷ []) (i + 1) (hex_after None (drop (i + 1) body))
unfolding hex_after
hex_second first body old i h e f =
    ap (with_front old i) (at_drop_more (hex_after (Some first)) body i 0 h ∙ rw (e, f) refl)
    ∙ front_front old _ i 1 (hex_after None (drop (i + 1) body))

pub hex_end : (body old : List ℕ) (i : ℕ) → length body ≤ i → with_front old i (hex_after None (drop i body)) ≡ Ok old
unfolding hex_after
hex_end body old i h = ap (with_front old i) (at_drop_all (hex_after None) body i h) ∙ ap Ok (append-nil old)

pub hex_left : (first : ℕ) (body old : List ℕ) (i : ℕ) → length body ≤ i → with_front old i (hex_after (Some first) (drop i body)) ≡ Err (i + 0)
unfolding hex_after
hex_left first body old i h = ap (with_front old i) (at_drop_all (hex_after (Some first)) body i h)

cases_digit : (b : Bool) (v d : ℕ) → cond b (Some v) None ≡ Some d → (b ≡ true) × (d ≡ v)
cases_digit true v d e = (refl, cc)
cases_digit false v d e = cc

cases_no_digit : (b : Bool) (v : ℕ) → cond b (Some v) None ≡ None → b ≡ false
cases_no_digit true v e = cc
cases_no_digit false v e = refl

pub hex_digit_some : (c d : ℕ) → hex_digit c ≡ Some d → (is_digit Hexadecimal c ≡ true) × (d ≡ digit_value c)
unfolding hex_digit
hex_digit_some c d e = cases_digit (is_digit Hexadecimal c) (digit_value c) d e

pub hex_digit_none : (c : ℕ) → hex_digit c ≡ None → is_digit Hexadecimal c ≡ false
unfolding hex_digit
hex_digit_none c e = cases_no_digit (is_digit Hexadecimal c) (digit_value c) e
