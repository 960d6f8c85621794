-- From what the code finds to the tokens of a text.
use Rattle.std.proofs.Common.{◌≡◌, ◌↔◌, ℕ, ◌+◌, ◌≤◌, ◌<◌, Bool, true, false, List, [], ◌++◌, length, take, drop, sym, ◌∙◌, ap, subst, arith, Ok, Err, length-drop, length-take}
use Rattle.std.proofs.lemmas.List.{drop-drop, take-append-drop, nil_from_length}
use Rattle.ecd_lex.specs.declared.found.Found.{Found}
use Rattle.ecd_lex.specs.Scan.{gap_len, front_found}
use Rattle.ecd_lex.specs.Lexemes.{Stands, IsGap, IsFront, IsTrailing, TokenStands, FaultStands}
use Rattle.ecd_lex.proofs.Gaps.{gap_within, gap_end, gap_front}
use Rattle.ecd_lex.proofs.Fronts.{front_ok, front_err}
use Rattle.ecd_lex.proofs.Within.{breaks_within}

module _ (text : List ℕ) (at_ n : ℕ) (gap : n ≡ gap_len false (drop at_ text)) (inside : at_ ≤ length text) where
  pub next_begins : at_ + n ≤ length text
  next_begins = rw gap (let h = gap_within (drop at_ text) in omega (arith, h, length-drop at_ text))

  pub next_end : length (drop (at_ + n) text) ≡ 0 → IsTrailing (drop at_ text)
  next_end e = gap_end (drop at_ text) (subst (λ k. drop k (drop at_ text) ≡ []) gap (drop-drop n at_ text ∙ nil_from_length (drop (at_ + n) text) e))

  next_front : 0 < length (drop (at_ + n) text) → IsGap (take n (drop at_ text)) × IsFront (drop (at_ + n) text)
  next_front h =
      let e : drop n (drop at_ text) ≡ drop (at_ + n) text = drop-drop n at_ text in
      let P : ℕ → Type 0 = λ k. 0 < length (drop k (drop at_ text)) → IsGap (take k (drop at_ text)) × IsFront (drop k (drop at_ text)) in
      let s : P n = subst P (sym gap) (gap_front (drop at_ text)) in
      let r = s (subst (λ x. 0 < length x) (sym e) h) in
      (r.0, subst IsFront e r.1)

  pub next_some : (found : Found) → 0 < length (drop (at_ + n) text) → front_found (drop (at_ + n) text) ≡ Ok found →
      (0 < found.end) × (at_ + n + found.end ≤ length text)
  next_some found h e = let f = front_ok (drop (at_ + n) text) found e in (f.some, (let b = next_begins in let w = f.within in omega (arith, w, length-drop (at_ + n) text)))

  pub next_stands : (found : Found) (follows glued : Bool) → 0 < length (drop (at_ + n) text) → front_found (drop (at_ + n) text) ≡ Ok found →
      ((glued ≡ true) ↔ ((follows ≡ true) × (at_ + n ≡ at_))) →
      TokenStands (length text) follows (drop at_ text) (record { at = at_ + n; end = at_ + n + found.end; glued = glued; kind = found.kind }) (drop (at_ + n + found.end) text)
  next_stands found follows glued h e g =
      let front = next_front h in
      let t : List ℕ = drop at_ text in
      let same : drop n t ≡ drop (at_ + n) text = drop-drop n at_ text in
      let f = front_ok (drop (at_ + n) text) found e in
      let rest : drop found.end (drop (at_ + n) text) ≡ drop (at_ + n + found.end) text = drop-drop found.end (at_ + n) text in
      let whole : take found.end (drop (at_ + n) text) ++ drop (at_ + n + found.end) text ≡ drop (at_ + n) text = subst (λ x. take found.end (drop (at_ + n) text) ++ x ≡ drop (at_ + n) text) rest (take-append-drop found.end (drop (at_ + n) text)) in
      let b = next_begins in
      let w = next_some found h e in
      record {
        gap = take n t;
        bytes = take found.end (drop (at_ + n) text);
        is = sym (take-append-drop n t) ∙ ap (λ x. take n t ++ x) (same ∙ sym whole);
        blank = front.0;
        stands = subst (λ x. Stands found.kind (take found.end (drop (at_ + n) text)) x) rest f.stands;
        begins = rw whole (omega (arith, length-drop (at_ + n) text));
        ends = omega (arith, length-drop (at_ + n + found.end) text);
        glued = (λ q. ((g.0 q).0, nil_from_length (take n t) (omega (arith, (g.0 q).1, length-take n t))), λ q. g.1 (q.0, (let z = ap length q.1 in omega (arith, z, length-take n t, length-drop at_ text))));
      }

  pub next_fault : (offset rule : ℕ) → 0 < length (drop (at_ + n) text) → front_found (drop (at_ + n) text) ≡ Err (offset, rule) →
      FaultStands (length text) (drop at_ text) (at_ + n + offset) rule
  next_fault offset rule h e =
      let front = next_front h in
      let t : List ℕ = drop at_ text in
      let same : drop n t ≡ drop (at_ + n) text = drop-drop n at_ text in
      let b = next_begins in
      record {
        gap = take n t;
        front = drop (at_ + n) text;
        offset = offset;
        is = sym (take-append-drop n t) ∙ ap (λ x. take n t ++ x) same;
        blank = front.0;
        begins = front.1;
        breaks = front_err (drop (at_ + n) text) offset rule front.1 e;
        stands = omega (arith, length-drop (at_ + n) text);
      }

  pub next_place : (offset rule : ℕ) → 0 < length (drop (at_ + n) text) → front_found (drop (at_ + n) text) ≡ Err (offset, rule) →
      at_ + n + offset ≤ length text
  next_place offset rule h e =
      let b = next_begins in
      let w = breaks_within (drop (at_ + n) text) offset rule (front_err (drop (at_ + n) text) offset rule (next_front h).1 e) in
      omega (arith, w, length-drop (at_ + n) text)
