-- The lexeme at the front of a text.
use Rattle.std.proofs.Common.{◌≡◌, inl, inr, ℕ, ◌+◌, ◌≤◌, ◌<◌, suc, zero, Bool, true, false, List, [], ◌∷◌, ◌++◌, length, take, drop, get_or, refl, sym, ◌∙◌, ap, subst, arith, Some, Result, Ok, Err, length-take}
use Rattle.std.proofs.lemmas.List.{take-append-drop}
use Rattle.ecd_lex.specs.declared.found.Found.{Found}
use Rattle.ecd_lex.specs.declared.token.TokenKind.{TokenKind}
use Rattle.ecd_lex.specs.Characters.{is_name_byte, is_name_start, is_letter, is_decimal}
use Rattle.ecd_lex.specs.Forms.{IsLongest}
use Rattle.ecd_lex.specs.Faults.{IsPadded, GoesOn, Breaks}
use Rattle.ecd_lex.specs.Scan.{Fault, candidate, front_found}
use Rattle.ecd_lex.specs.Lexemes.{Stands, IsFront}
use Rattle.ecd_lex.proofs.Founds.{ok_one, no_ok, split_at}
use Rattle.ecd_lex.proofs.Candidates.{candidate_sound}
use Rattle.ecd_lex.proofs.Covers.{Covered}
use Rattle.ecd_lex.proofs.Longest.{candidate_most}
use Rattle.ecd_lex.proofs.Errors.{candidate_stops, stops_break, no_err}
use Rattle.ecd_lex.proofs.Unique.{by_found, breaks_unique, found_same, ended_kind, front_of, front_unique}

pub record FrontStands (text : List ℕ) (found : Found) : Type 0 where
  pub within : found.end ≤ length text
  pub some : 0 < found.end
  pub stands : Stands found.kind (take found.end text) (drop found.end text)

-- no longer lexeme is there
pub longest_of : (text : List ℕ) (found : Found) → candidate text ≡ Ok found → found.end ≤ length text → IsLongest text (take found.end text)
longest_of text found e w kind other more l t =
    let c : Covered kind other (Ok found) = subst (Covered kind other) (ap candidate (sym t) ∙ e) (candidate_most kind other more l) in
    omega (arith, c.0, length-take found.end text, w)

-- what is found at the front is the candidate
ok_candidate : (text : List ℕ) (found : Found) → front_found text ≡ Ok found → candidate text ≡ Ok found
ok_candidate text found e = elim (by_found (candidate text)) as (λ _. candidate text ≡ Ok found) [
  | inl f ↦ elim (ended_kind text f.0) as (λ _. candidate text ≡ Ok found) [
    | inl k ↦ f.1 ∙ ap Ok (ok_one f.0 found (sym (front_of text (Ok f.0) f.1 ∙ k) ∙ e))
    | inr k ↦ no_ok (candidate text ≡ Ok found) (k.0, 4) found (sym (front_of text (Ok f.0) f.1 ∙ k.3) ∙ e)
  ]
  | inr p ↦ no_ok (candidate text ≡ Ok found) p.0 found (sym (front_of text (Err p.0) p.1) ∙ e)
]

front_ok_at : (c : ℕ) (text : List ℕ) (found : Found) → front_found (c ∷ text) ≡ Ok found → FrontStands (c ∷ text) found
front_ok_at c text found e =
    let k = ok_candidate (c ∷ text) found e in
    let s = candidate_sound (c ∷ text) found k in
    let whole = take-append-drop found.end (c ∷ text) in
    record {
      within = s.within;
      some = s.some;
      stands = record {
        lexeme = s.lexeme;
        longest = subst (λ t. IsLongest t (take found.end (c ∷ text))) (sym whole) (longest_of (c ∷ text) found k s.within);
        unbroken = λ offset rule b. no_err ⊥ (offset, rule) found (sym e ∙ front_unique c text offset rule (subst (λ t. Breaks t offset rule) whole b));
      };
    }

pub front_ok : (text : List ℕ) (found : Found) → front_found text ≡ Ok found → FrontStands text found
front_ok [] found e = absurd (let s = candidate_sound [] found (ok_candidate [] found e) in let w = s.within in let z = s.some in omega (arith, w, z))
front_ok (c ∷ text) found e = front_ok_at c text found e

zero_no_name : is_name_byte 0 ≡ false
unfolding is_name_byte is_name_start is_letter is_decimal
zero_no_name = refl

no_both : {b : Bool} → b ≡ true → b ≡ false → ⊥
no_both e f = cc

name_some : (n : ℕ) → is_name_byte n ≡ true → (k : ℕ) × (n ≡ suc k)
name_some zero e = absurd (no_both e zero_no_name)
name_some (suc k) e = (k, refl)

goes_on_of : (c : ℕ) (text : List ℕ) (found : Found) (k : ℕ) → candidate (c ∷ text) ≡ Ok found → found.number ≡ Some k → is_name_byte (get_or (c ∷ text) found.end 0) ≡ true → GoesOn (c ∷ text) k
goes_on_of c text found k e n h =
    let s = candidate_sound (c ∷ text) found e in
    let next = name_some (get_or (c ∷ text) found.end 0) h in
    record {
      kind = found.kind;
      bytes = take found.end (c ∷ text);
      next = suc next.0;
      more = drop (found.end + 1) (c ∷ text);
      is = split_at found.end next.0 (c ∷ text) next.1;
      lexeme = s.lexeme;
      longest = longest_of (c ∷ text) found e s.within;
      ends = (s.number k).0 n;
      goes_on = ap is_name_byte (sym next.1) ∙ h;
    }

no_padded : (c : ℕ) (text : List ℕ) (found : Found) → candidate (c ∷ text) ≡ Ok found → ¬ IsPadded (c ∷ text)
no_padded c text found e p = elim (breaks_unique c text 0 4 (inr (inr (inr (inl (refl, inl (p, refl))))))) [
  | inl q ↦ no_err ⊥ (0, 4) found (sym e ∙ q)
  | inr q ↦ q.1 p
]

same_err : (a b : Fault) → ◌≡◌ {A = Result Found Fault} (Err a) (Err b) → a ≡ b
same_err a b e = cc

broken_by : (text : List ℕ) (p q : Fault) (read : Result Found Fault) → read ≡ Err p → read ≡ Err q → Breaks text p.0 p.1 → Breaks text q.0 q.1
broken_by text p q read e f b = subst (λ x. Breaks text x.0 x.1) (same_err p q (sym e ∙ f)) b

pub front_err : (text : List ℕ) (offset rule : ℕ) → IsFront text → front_found text ≡ Err (offset, rule) → Breaks text offset rule
front_err [] offset rule f e = absurd f
front_err (c ∷ text) offset rule f e = elim (by_found (candidate (c ∷ text))) as (λ _. Breaks (c ∷ text) offset rule) [
  | inl g ↦ elim (ended_kind (c ∷ text) g.0) as (λ _. Breaks (c ∷ text) offset rule) [
    | inl k ↦ no_err (Breaks (c ∷ text) offset rule) (offset, rule) g.0 (sym (front_of (c ∷ text) (Ok g.0) g.1 ∙ k) ∙ e)
    | inr k ↦ broken_by (c ∷ text) (k.0, 4) (offset, rule) (front_found (c ∷ text)) (front_of (c ∷ text) (Ok g.0) g.1 ∙ k.3) e
        (inr (inr (inr (inl (refl, inr (no_padded c text g.0 g.1, goes_on_of c text g.0 k.0 g.1 k.1 k.2))))))
  ]
  | inr p ↦ broken_by (c ∷ text) p.0 (offset, rule) (front_found (c ∷ text)) (front_of (c ∷ text) (Err p.0) p.1) e (stops_break (c ∷ text) p.0.0 p.0.1 (candidate_stops c text p.0 p.1))
]

-- a lexeme that stands at the front is found there
pub stands_found : (kind : TokenKind) (bytes more : List ℕ) → IsFront (bytes ++ more) → Stands kind bytes more → (found : Found) × (front_found (bytes ++ more) ≡ Ok found) × (found.end ≡ length bytes) × (kind ≡ found.kind)
stands_found kind bytes more f s = elim (by_found (front_found (bytes ++ more))) as (λ _. (found : Found) × (front_found (bytes ++ more) ≡ Ok found) × (found.end ≡ length bytes) × (kind ≡ found.kind)) [
  | inl g ↦ (let m = found_same (bytes ++ more) g.0 kind bytes more (ok_candidate (bytes ++ more) g.0 g.1) refl s.lexeme s.longest in (g.0, g.1, m.end, m.kind_is))
  | inr p ↦ absurd (s.unbroken p.0.0 p.0.1 (front_err (bytes ++ more) p.0.0 p.0.1 f p.1))
]
