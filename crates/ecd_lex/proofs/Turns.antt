-- One turn of each loop over bytes.
use Rattle.std.proofs.Common.{◌≡◌, ℕ, ◌+◌, ◌<◌, ◌≤◌, Bool, true, false, not, ◌&&◌, List, length, drop, get_or, refl, sym, ◌∙◌, ap, arith, add-zero, add_assoc, Option, Some, None, cond}
use Rattle.std.specs.Prelude.{if◌then◌else◌, ◌==◌, nat_lt}
use Rattle.std.proofs.lemmas.List.{at_drop_more, at_drop_all, get_or-drop}
use Rattle.ecd_lex.specs.Characters.{is_name_byte, is_link, is_white}
use Rattle.ecd_lex.specs.Scan.{gap_len, name_rest, body_len, hex_len, more}
use Rattle.ecd_lex.specs.Forms.{is_character, is_hex_character}

pub gap_turn : (comment : Bool) (text : List ℕ) (i : ℕ) → i < length text →
    gap_len comment (drop i text) ≡ (if comment then 1 + gap_len (not (get_or text i 0 == 10)) (drop (i + 1) text)
    else (if get_or text i 0 == 59 then 1 + gap_len true (drop (i + 1) text)
    else (if is_white (get_or text i 0) (get_or text (i + 1) 0) then 1 + gap_len false (drop (i + 1) text) else 0)))
unfolding gap_len
gap_turn true text i h = at_drop_more (gap_len true) text i 0 h
gap_turn false text i h = at_drop_more (gap_len false) text i 0 h ∙ rw (get_or-drop (i + 1) text 0 0, add-zero) refl

pub gap_end : (comment : Bool) (text : List ℕ) (i : ℕ) → length text ≤ i → gap_len comment (drop i text) ≡ 0
unfolding gap_len
gap_end true text i h = at_drop_all (gap_len true) text i h
gap_end false text i h = at_drop_all (gap_len false) text i h

pub name_turn : (text : List ℕ) (i : ℕ) → i < length text →
    name_rest (drop i text) ≡ (if is_name_byte (get_or text i 0) then 1 + name_rest (drop (i + 1) text)
    else (if is_link (get_or text i 0) && nat_lt 0 (name_rest (drop (i + 1) text)) then 1 + name_rest (drop (i + 1) text) else 0))
unfolding name_rest
name_turn text i h = at_drop_more name_rest text i 0 h

pub name_end : (text : List ℕ) (i : ℕ) → length text ≤ i → name_rest (drop i text) ≡ 0
unfolding name_rest
name_end text i h = at_drop_all name_rest text i h

more_more : (i : ℕ) (o : Option ℕ) → more i (more 1 o) ≡ more (i + 1) o
more_more i None = refl
more_more i (Some n) = ap Some (sym (add_assoc i 1 n))

more_cond : (i : ℕ) (b : Bool) (x y : Option ℕ) → more i (cond b x y) ≡ cond b (more i x) (more i y)
more_cond i true x y = refl
more_cond i false x y = refl

more_zero : (i : ℕ) → more i (Some 0) ≡ Some i
more_zero i = ap Some (omega arith)

pub body_turn : (quote : ℕ) (escaped : Bool) (text : List ℕ) (i : ℕ) → i < length text →
    more i (body_len quote escaped (drop i text)) ≡ (if not (is_character (get_or text i 0)) then None
    else (if escaped then more (i + 1) (body_len quote false (drop (i + 1) text))
    else (if get_or text i 0 == quote then Some i
    else more (i + 1) (body_len quote (get_or text i 0 == 92) (drop (i + 1) text)))))
unfolding body_len
body_turn quote escaped text i h = ap (more i) (at_drop_more (body_len quote escaped) text i 0 h) ∙ simp (more_cond, more_more, more_zero)

pub body_end : (quote : ℕ) (escaped : Bool) (text : List ℕ) (i : ℕ) → length text ≤ i → more i (body_len quote escaped (drop i text)) ≡ None
unfolding body_len
body_end quote escaped text i h = ap (more i) (at_drop_all (body_len quote escaped) text i h)

pub hex_turn : (returned : Bool) (text : List ℕ) (i : ℕ) → i < length text →
    more i (hex_len returned (drop i text)) ≡ (if returned then (if get_or text i 0 == 10 then more (i + 1) (hex_len false (drop (i + 1) text)) else None)
    else (if get_or text i 0 == 39 then Some i
    else (if get_or text i 0 == 13 then more (i + 1) (hex_len true (drop (i + 1) text))
    else (if is_hex_character (get_or text i 0) then more (i + 1) (hex_len false (drop (i + 1) text))
    else None))))
unfolding hex_len
hex_turn returned text i h = ap (more i) (at_drop_more (hex_len returned) text i 0 h) ∙ simp (more_cond, more_more, more_zero)

pub hex_end : (returned : Bool) (text : List ℕ) (i : ℕ) → length text ≤ i → more i (hex_len returned (drop i text)) ≡ None
unfolding hex_len
hex_end returned text i h = ap (more i) (at_drop_all (hex_len returned) text i h)
