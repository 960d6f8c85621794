-- Tokens of a text are a laying of its lexemes, and what reading them says of the text.
use Rattle.std.proofs.Common.{◌≡◌, ℕ, zero, suc, ◌<◌, ◌≤◌, inl, inr, true, false, List, [], ◌∷◌, ◌++◌, length, take, drop, map, Result, Ok, Err, refl, ap, sym, ◌∙◌, subst, arith}
use Rattle.std.specs.Prelude.{bytes_eq}
use Rattle.std.proofs.lemmas.List.{length-append, length-drop, drop_all, take-append-drop, drop-map, take-map}
use Rattle.std.proofs.Math.Seq.{take-append_seam, drop-append_seam}
use Rattle.std.proofs.lemmas.Slice.Eq.{bytes_eq-Decides}
use Rattle.ecd_cast.specs.declared.tree.Program.{Program}
use Rattle.ecd_cast.specs.Lexemes.{Lexeme, Laid, IsLongest, is_lexeme}
use Rattle.ecd_cast.specs.Spelling.{first_line, IsSpelling}
use Rattle.ecd_cgrammar.specs.Reading.{taken, stuck, program_at}
use Rattle.ecd_cgrammar.specs.Faults.{FaultAt, Reaches, begins_blank, IsFault}
use Rattle.ecd_cgrammar.proofs.Lexing.{some_bytes, reaches_laid}
use Rattle.ecd_cgrammar.proofs.Verdicts.{is_read, dead_behind, stops_at_end, stops_before, one_program, one_fault, no_fault}
use Rattle.ecd_clex.specs.declared.token.Token.{Token}
use Rattle.ecd_clex.specs.Tokens.{Stands, Lexed, Ends, AllLexed, lexeme_of, lexemes}
use Rattle.ecd_cast.specs.Validity.{Fault, IsValid, IsFirstFault}
use Rattle.ecd_cast.specs.declared.fault.CFault.{CFault}
use Rattle.ecd_cast.specs.declared.fault.CFault.TheVariants as causes
use Rattle.ecd_cast.proofs.Verdicts.{first_fault}
use Rattle.ecd_cread.specs.Answers.{Answers, Is, BeginsWell, place_or, Breaks, AnswersWith, IsAnswer}
use Rattle.ecd_cread.specs.declared.fault.TextFault.{TextFault}
use Rattle.ecd_cread.specs.declared.fault.TextFault.TheVariants as faults

-- ---- all tokens

module _ (text : List ℕ) where
  reached : (ts : List Token) (from last to : ℕ) → Lexed text from ts last → Ends text last to → Reaches (lexemes text ts) (drop to text) (drop from text)
  unfolding lexemes
  reached [] from last to h e = (e.blanks, e.blank, ap (λ (k : ℕ). drop k text) h ∙ e.gap)
  reached (t ∷ ts) from last to h e = let p = h.0 in (p.blanks, drop t.end text, p.blank, p.gap ∙ ap (λ (r : List ℕ). p.blanks ++ r) p.whole, p.longest, reached ts t.end last to h.1 e)

  inside : (from : ℕ) (t : Token) → Stands text from t → t.at ≤ length text
  inside from t s = omega (arith, ap length s.whole, length-drop t.at text, length-append (lexeme_of text t) (drop t.end text), some_bytes (lexeme_of text t) s.known)

  -- what stands before a token, and the token
  record Before (from : ℕ) (before : List Token) (t : Token) : Type 0 where
    reaches : Reaches (lexemes text before) (lexeme_of text t ++ drop t.end text) (drop from text)
    whole : drop t.at text ≡ lexeme_of text t ++ drop t.end text
    known : is_lexeme (lexeme_of text t) ≡ true
    longest : IsLongest (lexeme_of text t) (drop t.end text)
    within : t.at ≤ length text

  before : (j : ℕ) (ts rest : List Token) (t : Token) (from to : ℕ) → Lexed text from ts to → drop j ts ≡ t ∷ rest → Before from (take j ts) t
  unfolding lexemes
  before j [] rest t from to h e = absurd (no_token j e)
    where
      no_token : (j : ℕ) → drop j [] ≡ t ∷ rest → ⊥
      no_token zero e = cc
      no_token (suc j) e = cc
  before zero (u ∷ ts) rest t from to h e =
      let same : u ≡ t = cc in
      let p : Stands text from t = subst (Stands text from) same h.0 in
      record { reaches = (p.blanks, p.blank, p.gap ∙ ap (λ (r : List ℕ). p.blanks ++ r) p.whole); whole = p.whole; known = p.known; longest = p.longest; within = inside from t p }
  before (suc j) (u ∷ ts) rest t from to h e =
      let p = h.0 in
      let b = before j ts rest t u.end to h.1 e in
      record { reaches = (p.blanks, drop u.end text, p.blank, p.gap ∙ ap (λ (r : List ℕ). p.blanks ++ r) p.whole, p.longest, b.reaches); whole = b.whole; known = b.known; longest = b.longest; within = b.within }

-- ---- answers

module _ (text : List ℕ) (tokens : List Token) (end levels : ℕ) (well : BeginsWell text) (all : AllLexed text 20 tokens end) where
  behind : drop 20 text ≡ well.0
  behind = ap (drop 20) well.1 ∙ drop-append_seam first_line well.0

  reaches_end : Reaches (lexemes text tokens) (drop end text) well.0
  reaches_end =
      subst (Reaches (lexemes text tokens) (drop end text)) behind (reached text tokens 20 all.last end all.lexed all.ends)

  pub spelled : (p : Program) → end ≡ length text → program_at (suc (length tokens)) levels (lexemes text tokens) ≡ taken p [] → IsSpelling p text
  spelled p e h =
      let r = is_read p (lexemes text tokens) (suc (length tokens)) levels h in
      let empty : drop end text ≡ [] = drop_all end text (omega (arith, e)) in
      let laid : Laid (lexemes text tokens) well.0 = reaches_laid (lexemes text tokens) well.0 (subst (λ (t : List ℕ). Reaches (lexemes text tokens) t well.0) empty reaches_end) in
      record { spelled = r.1; spells = record { rest = well.0; begins = well.1; laid = subst (λ (ls : List Lexeme). Laid ls well.0) r.0 laid } }

  fault_at_end : IsFault well.0 (drop end text) → FaultAt text end
  fault_at_end f = inr (record { body = well.0; begins = well.1; rest = drop end text; fault = f; stands = omega (arith, length-drop end text, all.ends.within) })

  pub bad_byte : (p : Program) → end < length text → program_at (suc (length tokens)) levels (lexemes text tokens) ≡ taken p [] → FaultAt text end
  bad_byte p lt h = fault_at_end (at_rest (drop end text) refl)
    where
      at_rest : (r : List ℕ) → drop end text ≡ r → IsFault well.0 (drop end text)
      at_rest [] e = absurd (omega (arith, ap length e, length-drop end text))
      at_rest (c ∷ cs) e =
          rw e (dead_behind p (lexemes text tokens) c cs well.0 (suc (length tokens)) levels h (subst (λ (t : List ℕ). Reaches (lexemes text tokens) t well.0) e reaches_end) (ap begins_blank (sym e) ∙ all.ends.clear)
          (λ l after f k. all.ends.none l after (e ∙ f) k))

  pub stopped : (j place : ℕ) → program_at (suc (length tokens)) levels (lexemes text tokens) ≡ stuck (drop j (lexemes text tokens)) → place ≡ place_or end (drop j tokens) → FaultAt text place
  unfolding lexemes
  stopped j place h e = at_tokens (drop j tokens) refl
    where
      at_tokens : (r : List Token) → drop j tokens ≡ r → FaultAt text place
      at_tokens [] f =
          let none : drop j (lexemes text tokens) ≡ [] = drop-map (lexeme_of text) j tokens ∙ ap (map (lexeme_of text)) f in
          subst (FaultAt text) (sym (e ∙ ap (place_or end) f))
          (fault_at_end (stops_at_end (lexemes text tokens) (drop end text) well.0 (suc (length tokens)) levels (h ∙ ap stuck none) reaches_end all.ends.clear all.ends.none))
      at_tokens (t ∷ rest) f =
          let b = before text j tokens rest t 20 all.last all.lexed f in
          let left : drop j (lexemes text tokens) ≡ lexeme_of text t ∷ lexemes text rest = drop-map (lexeme_of text) j tokens ∙ ap (map (lexeme_of text)) f in
          let split : lexemes text tokens ≡ lexemes text (take j tokens) ++ lexeme_of text t ∷ lexemes text rest = sym (take-append-drop j (lexemes text tokens)) ∙ ap (λ (ls : List Lexeme). take j (lexemes text tokens) ++ ls) left ∙ ap (λ (ls : List Lexeme). ls ++ lexeme_of text t ∷ lexemes text rest) (take-map (lexeme_of text) j tokens) in
          let fault : IsFault well.0 (lexeme_of text t ++ drop t.end text) =
          stops_before (lexemes text (take j tokens)) (lexemes text rest) (lexeme_of text t) (drop t.end text) well.0 (suc (length tokens)) levels
          (ap (program_at (suc (length tokens)) levels) (sym split) ∙ h ∙ ap stuck left)
          (subst (Reaches (lexemes text (take j tokens)) (lexeme_of text t ++ drop t.end text)) behind b.reaches) b.known b.longest in
          subst (FaultAt text) (sym (e ∙ ap (place_or end) f))
          (inr (record { body = well.0; begins = well.1; rest = lexeme_of text t ++ drop t.end text; fault = fault; stands = omega (arith, ap length b.whole, length-drop t.at text, b.within) }))

-- ---- the first line

pub first_line_there : (text : List ℕ) → bytes_eq (take 20 text) first_line ≡ true → BeginsWell text
first_line_there text h = (drop 20 text, sym (take-append-drop 20 text) ∙ ap (λ (t : List ℕ). t ++ drop 20 text) ((bytes_eq-Decides (take 20 text) first_line).0 h))

pub no_first_line : (text : List ℕ) → bytes_eq (take 20 text) first_line ≡ false → FaultAt text 0
no_first_line text h = inl (record { other = λ body e. differs body e; first = refl })
  where
    differs : (body : List ℕ) → text ≡ first_line ++ body → ⊥
    differs body e =
        let same : take 20 text ≡ first_line = ap (take 20) e ∙ take-append_seam first_line body in
        let g : true ≡ false = sym ((bytes_eq-Decides (take 20 text) first_line).1 same) ∙ h in
        cc

-- ---- no other answer

abbrev fault_at : ℕ → Result Program TextFault
fault_at place = Err (faults.At place)

pub only_program : (text : List ℕ) (result : Result Program TextFault) → Answers text result → (p : Program) → IsSpelling p text → Is result (Ok p)
only_program text (Ok q) h p s = inl (ap (λ (r : Program). Ok r) (one_program q p text h s))
only_program text (Err (faults.At place)) h p s = absurd (no_fault p text place s h)
only_program text (Err faults.OutOfMemory) h p s = inr refl

pub only_fault : (text : List ℕ) (result : Result Program TextFault) → Answers text result → (place : ℕ) → FaultAt text place → Is result (fault_at place)
only_fault text (Ok q) h place f = absurd (no_fault q text place h f)
only_fault text (Err (faults.At other)) h place f = inl (ap fault_at (one_fault text other place h f))
only_fault text (Err faults.OutOfMemory) h place f = inr refl

-- ---- with the rules

abbrev text_fault : ℕ → Result Program CFault
text_fault place = Err (causes.Text place)

abbrev broken : Fault → Result Program CFault
broken f = Err (causes.Rule f.rule f.item f.statement)

pub only_valid : (text : List ℕ) (result : Result Program CFault) → AnswersWith text result → (p : Program) → IsSpelling p text → IsValid p → IsAnswer result (Ok p)
only_valid text (Ok q) h p s v = inl (ap (λ (r : Program). Ok r) (one_program q p text h.0 s))
only_valid text (Err (causes.Text place)) h p s v = absurd (no_fault p text place s h)
only_valid text (Err (causes.Rule rule item statement)) h p s v = absurd (first_fault.none h.program _ (subst IsValid (one_program p h.program text s h.spelled) v) h.first)
only_valid text (Err causes.OutOfMemory) h p s v = inr refl

pub only_text : (text : List ℕ) (result : Result Program CFault) → AnswersWith text result → (place : ℕ) → FaultAt text place → IsAnswer result (text_fault place)
only_text text (Ok q) h place f = absurd (no_fault q text place h.0 f)
only_text text (Err (causes.Text other)) h place f = inl (ap text_fault (one_fault text other place h f))
only_text text (Err (causes.Rule rule item statement)) h place f = absurd (no_fault h.program text place h.spelled f)
only_text text (Err causes.OutOfMemory) h place f = inr refl

pub only_rule : (text : List ℕ) (result : Result Program CFault) → AnswersWith text result → (f : Fault) → Breaks text f → IsAnswer result (broken f)
only_rule text (Ok q) h f b = absurd (first_fault.none b.program f (subst IsValid (one_program q b.program text h.0 b.spelled) h.1) b.first)
only_rule text (Err (causes.Text place)) h f b = absurd (no_fault b.program text place b.spelled h)
only_rule text (Err (causes.Rule rule item statement)) h f b =
    let g : Fault = record { rule = rule; item = item; statement = statement } in
    let same : IsFirstFault b.program g = subst (λ (p : Program). IsFirstFault p g) (one_program h.program b.program text h.spelled b.spelled) h.first in
    inl (ap broken (first_fault.one b.program g f same b.first))
only_rule text (Err causes.OutOfMemory) h f b = inr refl
