-- What a reading of all lexemes says of their text.
use Rattle.std.proofs.Common.{◌≡◌, ℕ, suc, inl, inr, true, false, List, [], ◌∷◌, ◌++◌, length, None, Err, refl, ap, sym, ◌∙◌, subst, arith, append_assoc, append-nil}
use Rattle.std.proofs.lemmas.List.{length-append, append_cancel_left, append_cancel_right}
use Rattle.ecd_cast.specs.declared.tree.Program.{Program}
use Rattle.ecd_cast.specs.Lexemes.{Lexeme, AreLexemes, Laid, IsLongest, is_lexeme}
use Rattle.ecd_cast.specs.Spelling.{IsSpelling, IsSpelledProgram, program_lexemes, first_line}
use Rattle.ecd_cgrammar.specs.Reading.{Deep, taken, stuck, program_at}
use Rattle.ecd_cgrammar.specs.Faults.{Begins, NoneGoesOn, Reaches, begins_blank, IsFault, FaultAt}
use Rattle.ecd_reading.proofs.Readers.{ok_is}
use Rattle.ecd_cgrammar.proofs.Sound.{good_program}
use Rattle.ecd_cgrammar.proofs.Programs.{fine_program}
use Rattle.ecd_cast.proofs.Spelled.{program_are}
use Rattle.ecd_cgrammar.proofs.Shallow.{enough}
use Rattle.ecd_cgrammar.proofs.Lexing.{Compared, Together, First, Second, Ahead, compared, one_longest, laid_reaches, some_bytes, one_laying, solid}

-- ---- lists of lexemes

pub front_are : (a b : List Lexeme) → AreLexemes (a ++ b) → AreLexemes a
front_are [] b h = tt
front_are (l ∷ a) b h = (h.0, front_are a b h.1)

begun_are : (before : List Lexeme) → Begins before → AreLexemes before
begun_are before b = front_are before b.more (subst AreLexemes b.lexemes (program_are b.program b.spelled))

begins_front : (a b : List Lexeme) → Begins (a ++ b) → Begins a
begins_front a b c = record { program = c.program; spelled = c.spelled; more = b ++ c.more; lexemes = c.lexemes ∙ append_assoc a b c.more }

-- the lexemes that go on behind the first list begin a program
go_on : (ls : List Lexeme) (r : List ℕ) (ms : List Lexeme) → Ahead ls r ms → Begins ms → NoneGoesOn ls r → ⊥
go_on ls r ms a b n = at_rest r a.front n
  where
    at_rest : (r : List ℕ) → r ≡ a.lexeme ++ a.behind → NoneGoesOn ls r → ⊥
    at_rest [] e n = omega (arith, ap length e, length-append a.lexeme a.behind, some_bytes a.lexeme a.known)
    at_rest (c ∷ cs) e n = n a.lexeme a.behind e a.known a.longest (begins_front (ls ++ a.lexeme ∷ []) a.tail (subst Begins (a.longer ∙ sym (append_assoc ls (a.lexeme ∷ []) a.tail)) b))

-- ---- no two answers

one_rest : (body r s : List ℕ) → IsFault body r → IsFault body s → r ≡ s
one_rest body r s f g = by_case (compared f.before g.before r s body (begun_are f.before f.begins) (begun_are g.before g.begins) f.clear g.clear f.reaches g.reaches)
  where
    by_case : Compared f.before r g.before s → r ≡ s
    by_case (Together e k) = k
    by_case (First a) = absurd (go_on f.before r g.before a g.begins f.ends)
    by_case (Second a) = absurd (go_on g.before s f.before a f.begins g.ends)

pub one_fault : (text : List ℕ) (a b : ℕ) → FaultAt text a → FaultAt text b → a ≡ b
one_fault text a b (inl f) (inl g) = f.first ∙ sym g.first
one_fault text a b (inl f) (inr g) = absurd (f.other g.body g.begins)
one_fault text a b (inr f) (inl g) = absurd (g.other f.body f.begins)
one_fault text a b (inr f) (inr g) =
    let body : f.body ≡ g.body = append_cancel_left first_line f.body g.body (sym f.begins ∙ g.begins) in
    let rest : f.rest ≡ g.rest = one_rest g.body f.rest g.rest (subst (λ (t : List ℕ). IsFault t f.rest) body f.fault) g.fault in
    omega (arith, ap length rest, f.stands, g.stands)

whole : (p : Program) → IsSpelledProgram p → Begins (program_lexemes p)
whole p h = record { program = p; spelled = h; more = []; lexemes = sym (append-nil (program_lexemes p)) }

no_fault_in : (p : Program) (body rest : List ℕ) → IsSpelledProgram p → Laid (program_lexemes p) body → IsFault body rest → ⊥
no_fault_in p body rest h l f = by_case (compared f.before (program_lexemes p) rest [] body (begun_are f.before f.begins) (program_are p h) f.clear refl f.reaches (laid_reaches (program_lexemes p) body l))
  where
    at_end : (r : List ℕ) → r ≡ [] → NoneGoesOn f.before r → f.before ≡ program_lexemes p → ⊥
    at_end [] e n k = n p h (sym k)
    at_end (c ∷ cs) e n k = cc

    by_case : Compared f.before rest (program_lexemes p) [] → ⊥
    by_case (Together e k) = at_end rest k f.ends e
    by_case (First a) = go_on f.before rest (program_lexemes p) a (whole p h) f.ends
    by_case (Second a) = omega (arith, ap length a.front, length-append a.lexeme a.behind, some_bytes a.lexeme a.known)

pub no_fault : (p : Program) (text : List ℕ) (place : ℕ) → IsSpelling p text → FaultAt text place → ⊥
no_fault p text place s (inl f) = f.other s.spells.rest s.spells.begins
no_fault p text place s (inr f) =
    let body : f.body ≡ s.spells.rest = append_cancel_left first_line f.body s.spells.rest (sym f.begins ∙ s.spells.begins) in
    no_fault_in p s.spells.rest f.rest s.spelled s.spells.laid (subst (λ (t : List ℕ). IsFault t f.rest) body f.fault)

-- ---- what is read, or where reading stops

not_deep_or_taken : (p : Program) (ms rest : List Lexeme) (size levels : ℕ) → program_at size levels ms ≡ stuck rest → IsSpelledProgram p → program_lexemes p ≡ ms → ⊥
not_deep_or_taken p ms rest size levels h s e = elim (fine_program size levels p s).is [
  | inl t ↦ let g : stuck rest ≡ taken p [] = sym h ∙ ap (program_at size levels) (sym e) ∙ t in cc
  | inr d ↦ let g : stuck rest ≡ Err Deep = sym h ∙ ap (program_at size levels) (sym e) ∙ d in cc
]

-- lexemes that are read are those of the program
pub is_read : (p : Program) (ms : List Lexeme) (size levels : ℕ) → program_at size levels ms ≡ taken p [] → (ms ≡ program_lexemes p) × IsSpelledProgram p
is_read p ms size levels h =
    let r = (good_program size levels).sound ms [] p h in
    (r.whole ∙ append-nil r.front ∙ r.spells.0, r.spells.1)

-- the byte behind the lexemes of a program begins no lexeme
pub dead_behind : (p : Program) (ms : List Lexeme) (c : ℕ) (cs body : List ℕ) (size levels : ℕ) → program_at size levels ms ≡ taken p [] → Reaches ms (c ∷ cs) body → begins_blank (c ∷ cs) ≡ false
    → ((l after : List ℕ) → c ∷ cs ≡ l ++ after → is_lexeme l ≡ true → ⊥) → IsFault body (c ∷ cs)
dead_behind p ms c cs body size levels h reach clear dead =
    let r = is_read p ms size levels h in
    record { before = ms; reaches = reach; clear = clear; begins = subst Begins (sym r.0) (whole p r.1); ends = λ l after e k longest b. dead l after e k }

-- reading stops at the end of the lexemes
pub stops_at_end : (ms : List Lexeme) (tail body : List ℕ) (size levels : ℕ) → program_at size levels ms ≡ stuck [] → Reaches ms tail body → begins_blank tail ≡ false
    → ((l after : List ℕ) → tail ≡ l ++ after → is_lexeme l ≡ true → ⊥) → IsFault body tail
stops_at_end ms tail body size levels h reach clear dead =
    let s = (good_program size levels).stops ms [] h in
    let front : ms ≡ s.front = s.whole ∙ append-nil s.front in
    record {
      before = ms;
      reaches = reach;
      clear = clear;
      begins = record { program = s.value; spelled = s.spells.1; more = s.more; lexemes = sym s.spells.0 ∙ ap (λ (t : List Lexeme). t ++ s.more) (sym front) };
      ends = at_tail tail dead;
    }
  where
    at_tail : (tail : List ℕ) → ((l after : List ℕ) → tail ≡ l ++ after → is_lexeme l ≡ true → ⊥) → NoneGoesOn ms tail
    at_tail [] dead = λ p k e. not_deep_or_taken p ms [] size levels h k e
    at_tail (c ∷ cs) dead = λ l after e k longest b. dead l after e k

-- reading stops before a lexeme
pub stops_before : (front rest : List Lexeme) (m : Lexeme) (behind body : List ℕ) (size levels : ℕ) → program_at size levels (front ++ m ∷ rest) ≡ stuck (m ∷ rest) → Reaches front (m ++ behind) body
    → is_lexeme m ≡ true → IsLongest m behind → IsFault body (m ++ behind)
stops_before front rest m behind body size levels h reach known longest =
    let s = (good_program size levels).stops (front ++ m ∷ rest) (m ∷ rest) h in
    let same : s.front ≡ front = append_cancel_right s.front front (m ∷ rest) (sym s.whole) in
    record {
      before = front;
      reaches = reach;
      clear = solid m behind known;
      begins = record { program = s.value; spelled = s.spells.1; more = s.more; lexemes = sym s.spells.0 ∙ ap (λ (t : List Lexeme). t ++ s.more) same };
      ends = at_text (m ++ behind) refl;
    }
  where
    stuck_too : (more : List Lexeme) → program_at size levels (front ++ m ∷ more) ≡ stuck (m ∷ more)
    stuck_too more =
        let split : (xs : List Lexeme) → front ++ m ∷ xs ≡ (front ++ m ∷ []) ++ xs = λ xs. sym (append_assoc front (m ∷ []) xs) in
        ap (program_at size levels) (split more)
        ∙ (good_program size levels).local (front ++ m ∷ []) rest more (m ∷ []) None (omega (arith, length-append front (m ∷ []))) (omega arith) (ap (program_at size levels) (sym (split rest)) ∙ h)

    no_program : (l : Lexeme) → l ≡ m → Begins (front ++ l ∷ []) → ⊥
    no_program l e b =
        not_deep_or_taken b.program (front ++ m ∷ b.more) (m ∷ b.more) size levels (stuck_too b.more) b.spelled
        (b.lexemes ∙ append_assoc front (l ∷ []) b.more ∙ ap (λ (t : Lexeme). front ++ t ∷ b.more) e)

    at_text : (text : List ℕ) → text ≡ m ++ behind → NoneGoesOn front text
    at_text [] e = absurd (omega (arith, ap length e, length-append m behind, some_bytes m known))
    at_text (c ∷ cs) e = λ l after f k other b. no_program l (one_longest l m after behind k known other longest (sym f ∙ e)).0 b

-- ---- one program

pub one_program : (p q : Program) (text : List ℕ) → IsSpelling p text → IsSpelling q text → p ≡ q
one_program p q text s t =
    let body : s.spells.rest ≡ t.spells.rest = append_cancel_left first_line s.spells.rest t.spells.rest (sym s.spells.begins ∙ t.spells.begins) in
    let laid : Laid (program_lexemes p) t.spells.rest = subst (Laid (program_lexemes p)) body s.spells.laid in
    let same : program_lexemes p ≡ program_lexemes q = one_laying (program_lexemes p) (program_lexemes q) t.spells.rest (program_are p s.spelled) (program_are q t.spelled) laid t.spells.laid in
    let n : ℕ = suc (length (program_lexemes p)) in
    let first = not_deep p s.spelled in
    let second : program_at n n (program_lexemes p) ≡ taken q [] = again q t.spelled same in
    (ok_is p q [] [] (sym first ∙ second)).0
  where
    not_deep : (r : Program) → IsSpelledProgram r → program_at (suc (length (program_lexemes r))) (suc (length (program_lexemes r))) (program_lexemes r) ≡ taken r []
    not_deep r h = elim (fine_program (suc (length (program_lexemes r))) (suc (length (program_lexemes r))) r h).is [ inl e ↦ e | inr d ↦ absurd (enough (program_lexemes r) d) ]

    again : (r : Program) → IsSpelledProgram r → program_lexemes p ≡ program_lexemes r → program_at (suc (length (program_lexemes p))) (suc (length (program_lexemes p))) (program_lexemes p) ≡ taken r []
    again r h e = ap (λ (ms : List Lexeme). program_at (suc (length ms)) (suc (length ms)) ms) e ∙ not_deep r h
