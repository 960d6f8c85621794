-- A text is read as a program, or up to its first place of fault.
use Rattle.std.proofs.Common.{◌≡◌, ℕ, suc, ◌-◌, ◌≤◌, ◌⊎◌, inl, inr, Bool, true, false, List, [], ◌∷◌, ◌++◌, length, take, drop, Result, Ok, Err, refl, ap, sym, ◌∙◌, subst, arith}
use Rattle.std.specs.Prelude.{bytes_eq}
use Rattle.std.proofs.Math.Seq.{take-append_seam}
use Rattle.std.proofs.lemmas.Bool.{cases_eq}
use Rattle.std.proofs.lemmas.List.{length-append, take-append-drop}
use Rattle.std.proofs.lemmas.Slice.Eq.{bytes_eq-Decides}
use Rattle.ecd_cast.specs.declared.tree.Program.{Program}
use Rattle.ecd_cast.specs.Lexemes.{Lexeme, Laid, AreLexemes}
use Rattle.ecd_cast.specs.Spelling.{IsSpelling, IsSpelledProgram, first_line, program_lexemes}
use Rattle.ecd_cast.specs.Validity.{IsValid, call_depth_of, faults_from}
use Rattle.ecd_cast.proofs.Verdicts.{first_fault}
use Rattle.ecd_cgrammar.specs.Reading.{Taken, Halted, Stuck, Deep, taken, stuck, program_at}
use Rattle.ecd_cgrammar.specs.Faults.{Reaches, begins_blank, IsFault, FaultAt}
use Rattle.ecd_cgrammar.proofs.Lexing.{reaches_laid}
use Rattle.ecd_cgrammar.proofs.Shallow.{enough}
use Rattle.ecd_cgrammar.proofs.Sound.{good_program}
use Rattle.ecd_cgrammar.proofs.Verdicts.{is_read, dead_behind, stops_at_end, stops_before}
use Rattle.ecd_c_laws.specs.Laws.{TextsAreRead, TextsAreJudged}
use Rattle.ecd_c_laws.proofs.Cutting.{Cut, cut, before, no_longer}
use Rattle.ecd_c_laws.proofs.Ending.{takes_all}

module _ (body : List ℕ) (c : Cut body) where
  size : ℕ
  size = suc (length c.lexemes)

  -- the body is spelled, or has a fault
  abbrev Read : Type 0
  Read = ((program : Program) × IsSpelling program (first_line ++ body)) ⊎ ((rest : List ℕ) × IsFault body rest)

  -- all lexemes are read, and nothing or a byte that begins no lexeme is behind them
  all_read : (p : Program) → program_at size size c.lexemes ≡ taken p [] → Read
  all_read p h = by (is_read p c.lexemes size size h) c.rest refl
    where
      by : (c.lexemes ≡ program_lexemes p) × IsSpelledProgram p → (rest : List ℕ) → c.rest ≡ rest → Read
      by r [] e =
          let laid : Laid c.lexemes body = reaches_laid c.lexemes body (subst (λ (t : List ℕ). Reaches c.lexemes t body) e c.reaches) in
          inl (p, record { spelled = r.1; spells = record { rest = body; begins = refl; laid = subst (λ (ls : List Lexeme). Laid ls body) r.0 laid } })
      by r (b ∷ rest) e =
          inr (
            b ∷ rest,
            dead_behind p c.lexemes b rest body size size h (subst (λ (t : List ℕ). Reaches c.lexemes t body) e c.reaches) (subst (λ (t : List ℕ). begins_blank t ≡ false) e c.clear)
                (λ l after f k. c.dead l after (e ∙ f) k),
          )

  -- reading stops at the end of the lexemes, or before one
  stopped : (front left : List Lexeme) → c.lexemes ≡ front ++ left → program_at size size c.lexemes ≡ stuck left → Read
  stopped front [] e h = inr (c.rest, stops_at_end c.lexemes c.rest body size size h c.reaches c.clear c.dead)
  stopped front (m ∷ left) e h =
      let b = before front m left c.rest body (subst AreLexemes e c.known) (subst (λ (ls : List Lexeme). Reaches ls c.rest body) e c.reaches) in
      inr (m ++ b.behind, stops_before front left m b.behind body size size (ap (program_at size size) (sym e) ∙ h) b.reaches b.known b.longest)

  never_deep : program_at size size c.lexemes ≡ Err Deep → ⊥
  unfolding size
  never_deep e = enough c.lexemes e

  read : Read
  read = by (program_at size size c.lexemes) refl
    where
      by : (o : Result (Taken Program) Halted) → program_at size size c.lexemes ≡ o → Read
      by (Ok x) e = all_read x.value (e ∙ ap (taken x.value) (takes_all size size c.lexemes x.rest x.value e))
      by (Err (Stuck left)) e = let s = (good_program size size).stops c.lexemes left e in stopped s.front left s.whole e
      by (Err Deep) e = absurd (never_deep e)

-- ---- a text

behind_line : (text body : List ℕ) → text ≡ first_line ++ body → Read body (cut body) → ((program : Program) × IsSpelling program text) ⊎ ((place : ℕ) × FaultAt text place)
behind_line text body e (inl s) = inl (s.0, subst (IsSpelling s.0) (sym e) s.1)
behind_line text body e (inr f) =
    let short : length f.0 ≤ length text = omega (arith, no_longer f.1.before f.0 body f.1.reaches, ap length e, length-append first_line body) in
    inr (length text - length f.0, inr (record { body = body; begins = e; rest = f.0; fault = f.1; stands = omega (arith, short) }))

-- the front of the text is the first line, or the text has no first line
by_line : (text : List ℕ) (b : Bool) → bytes_eq (take 20 text) first_line ≡ b → ((program : Program) × IsSpelling program text) ⊎ ((place : ℕ) × FaultAt text place)
by_line text true h =
    let body = drop 20 text in
    let split : text ≡ first_line ++ body = sym (take-append-drop 20 text) ∙ ap (λ (t : List ℕ). t ++ body) ((bytes_eq-Decides (take 20 text) first_line).0 h) in
    behind_line text body split (read body (cut body))
by_line text false h = inr (0, inl (record { other = other; first = refl }))
  where
    other : (body : List ℕ) → text ≡ first_line ++ body → ⊥
    other body e =
        let same : take 20 text ≡ first_line = ap (take 20) e ∙ take-append_seam first_line body in
        let bad : true ≡ false = sym ((bytes_eq-Decides (take 20 text) first_line).1 same) ∙ h in
        cc

pub texts_are_read : TextsAreRead
texts_are_read text = by_line text (bytes_eq (take 20 text) first_line) refl

-- ---- the rules

none_or_some : {A : Type 0} (xs : List A) → (xs ≡ []) ⊎ (xs ≡ [] → ⊥)
none_or_some [] = inl refl
none_or_some (x ∷ xs) = inr (λ e. cc)

valid_or_not : (p : Program) → IsValid p ⊎ (IsValid p → ⊥)
valid_or_not p = elim (none_or_some (faults_from [] p.items 0)) [
  | inl sound ↦ elim (cases_eq p.depth (call_depth_of p.items)) [ inl depth ↦ inl (record { sound = sound; depth = depth }) | inr other ↦ inr (λ v. other v.depth) ]
  | inr broken ↦ inr (λ v. broken v.sound)
]

pub texts_are_judged : TextsAreJudged
texts_are_judged text = elim (texts_are_read text) [
  | inl s ↦ elim (valid_or_not s.0) [ inl valid ↦ inl (s.0, s.1, valid) | inr broken ↦ let f = first_fault.some s.0 broken in inr (inr (s.0, f.0, s.1, f.1)) ]
  | inr fault ↦ inr (inl fault)
]
