-- Why a command has no text.
use Rattle.std.proofs.Common.{◌≡◌, ℕ, ◌+◌, ◌≤◌, ◌⊎◌, Bool, ⊎_elim, inl, inr, List, [], ◌∷◌, arith, refl, sym, ◌∙◌, subst}
use Rattle.std.specs.Prelude.{Option, Result, Ok, Err, IfOk, ⊤}
use Rattle.ecd_outside.specs.Told.{Told, IsLonger, IsMissing, TakesExactly, MayFail}
use Rattle.ecd_outside.specs.Causes.{Rose}
use Rattle.ecd_judge.specs.declared.refusal.Refusal.{Refusal}
use Rattle.ecd_judge.specs.declared.refusal.Refusal.TheVariants as refusals
use Rattle.ecd_judge.specs.Request.{Request}
use Rattle.ecd_judge.specs.Schema.{IsTold}
use Rattle.ecd_cast.specs.declared.tree.Program.{Program}
use Rattle.ecd_commands.specs.Asked.{Asked, SchemaAsked, read, run}
use Rattle.ecd_cast.specs.Validity.{IsValid}
use Rattle.ecd_cast.specs.Spelling.{IsSpelling}
use Rattle.ecd_commands.specs.Calls.{IsHalted, IsNotRun, HasNoProgram, BreaksRule}
use Rattle.ecd_commands.specs.Outcomes.{Outcome, Done, NoEncoding, Broken, Usage, ReadFault, WriteFault, TooLarge, OutOfMemory, NoSpelling, BreaksC, Stuck, Spent, NoFunction, NotBuilt}
use Rattle.ecd_commands.specs.Files.{Wanted, files_of, IsRead, AreRead, IsTooLarge, IsOneMissing, TakesOneMore}
use Rattle.ecd_commands.specs.Causes.{request_for, IsRefused, IsRefusedOrWants, IsOverLimit, IsUnread, BeginWithNone, Denied, Makes, IsDue, IsDecided, MayFailToRead, StopsAt, HasNoText, outcome_of_refusal}

-- a refusal that the contents decide, once they are read
abbrev IsJudged : Outcome → Type 0
IsJudged Done = ⊥
IsJudged NoEncoding = ⊤
IsJudged (Broken line column place rule) = ⊤
IsJudged Usage = ⊥
IsJudged ReadFault = ⊥
IsJudged WriteFault = ⊥
IsJudged (TooLarge name) = ⊥
IsJudged OutOfMemory = ⊥
IsJudged (NoSpelling place) = ⊤
IsJudged (BreaksC rule item statement) = ⊤
IsJudged (Stuck reason item statement) = ⊤
IsJudged (Spent steps) = ⊤
IsJudged (NoFunction name) = ⊤
IsJudged NotBuilt = ⊤

-- a refusal that is due is no end of another kind
judged_only : (told : Told) (asked : Asked) (before now : ℕ) (begun : Bool) (left : Option (List ℕ)) (o : Outcome) → IsJudged o → IsDue told asked o → HasNoText told asked before now begun left o
judged_only told asked before now begun left o judged due = record {
  not_done = λ e. subst IsJudged e judged;
  not_usage = λ e. subst IsJudged e judged;
  not_write = λ e. subst IsJudged e judged;
  fault = λ e. absurd (subst IsJudged e judged);
  due = λ _. due;
  stops = λ name e. absurd (subst IsJudged e judged);
}

large_only : (told : Told) (asked : Asked) (before now : ℕ) (begun : Bool) (left : Option (List ℕ)) (o : Outcome) (name : List ℕ) → o ≡ TooLarge name → IsTooLarge told (files_of asked) name → StopsAt told asked begun left name
    → HasNoText told asked before now begun left o
large_only told asked before now begun left o name is large stops = record {
  not_done = λ e. let both : TooLarge name ≡ Done = sym is ∙ e in cc;
  not_usage = λ e. let both : TooLarge name ≡ Usage = sym is ∙ e in cc;
  not_write = λ e. let both : TooLarge name ≡ WriteFault = sym is ∙ e in cc;
  fault = λ e. let both : TooLarge name ≡ ReadFault = sym is ∙ e in let none : ⊥ = cc in absurd none;
  due = λ _. inl record { name = name; is = is; large = large };
  stops = λ other e. let both : TooLarge name ≡ TooLarge other = sym is ∙ e in let same : name ≡ other = cc in subst (λ (n : List ℕ). StopsAt told asked begun left n) same stops;
}

pub wants_only : (told : Told) (asked : Asked) (before now : ℕ) (begun : Bool) (left : Option (List ℕ)) (o : Outcome) → o ≡ OutOfMemory → HasNoText told asked before now begun left o
wants_only told asked before now begun left o is = record {
  not_done = λ e. let both : OutOfMemory ≡ Done = sym is ∙ e in cc;
  not_usage = λ e. let both : OutOfMemory ≡ Usage = sym is ∙ e in cc;
  not_write = λ e. let both : OutOfMemory ≡ WriteFault = sym is ∙ e in cc;
  fault = λ e. let both : OutOfMemory ≡ ReadFault = sym is ∙ e in let none : ⊥ = cc in absurd none;
  due = λ decided. absurd (subst IsDecided is decided);
  stops = λ name e. let both : OutOfMemory ≡ TooLarge name = sym is ∙ e in let none : ⊥ = cc in absurd none;
}

fault_only : (told : Told) (asked : Asked) (before now : ℕ) (begun : Bool) (left : Option (List ℕ)) (o : Outcome) → o ≡ ReadFault → MayFailToRead told asked before now → HasNoText told asked before now begun left o
fault_only told asked before now begun left o is may = record {
  not_done = λ e. let both : ReadFault ≡ Done = sym is ∙ e in cc;
  not_usage = λ e. let both : ReadFault ≡ Usage = sym is ∙ e in cc;
  not_write = λ e. let both : ReadFault ≡ WriteFault = sym is ∙ e in cc;
  fault = λ _. may;
  due = λ decided. absurd (subst IsDecided is decided);
  stops = λ name e. let both : ReadFault ≡ TooLarge name = sym is ∙ e in let none : ⊥ = cc in absurd none;
}

-- a file is not read, before which all are
pub unread_has_none : (told : Told) (asked : Asked) (file : Wanted) (before now : ℕ) (begun : Bool) (left : Option (List ℕ)) (o : Outcome)
    → (IsMissing told file.name → IsOneMissing told (files_of asked)) → (IsLonger told file.name file.limit → IsTooLarge told (files_of asked) file.name)
    → (TakesExactly told file.name left (file.limit + 1) → TakesOneMore told (files_of asked) left file.name)
    → IsUnread told file before now begun left o → HasNoText told asked before now begun left o
unread_has_none told asked file before now begun left o missing large more unread =
    ⊎_elim
    (λ (x : o ≡ OutOfMemory). wants_only told asked before now begun left o x)
    (λ (x : ((o ≡ ReadFault) × MayFail told file.name before now) ⊎ ((o ≡ TooLarge file.name) × IsOverLimit told file begun left)). ⊎_elim
    (λ (y : (o ≡ ReadFault) × MayFail told file.name before now). fault_only told asked before now begun left o y.0
    (⊎_elim (λ (z : Rose before now). inl z) (λ (z : IsMissing told file.name). inr (missing z)) y.1))
    (λ (y : (o ≡ TooLarge file.name) × IsOverLimit told file begun left).
    large_only told asked before now begun left o file.name y.0 (large y.1.longer) (y.1.is_begun, more y.1.taken)) x)
    unread

refusal_judged : (schema : List ℕ) (r : Refusal) → IsTold r → IsJudged (outcome_of_refusal schema r)
refusal_judged schema (refusals.NotUtf8 p) is = tt
refusal_judged schema (refusals.Lex p r) is = tt
refusal_judged schema (refusals.Parse p r) is = tt
refusal_judged schema (refusals.Name p r) is = tt
refusal_judged schema refusals.NotBuilt is = tt
refusal_judged schema refusals.OutOfMemory is = absurd is

refused_judged : (q : Request) (o : Outcome) → IsRefused q o → IsJudged o
refused_judged q o r = subst IsJudged (sym r.is) (refusal_judged q.schema r.refusal r.names_cause)

-- the schema is refused, once the files are read
pub refused_has_none : (told : Told) (asked : Asked) (q : Request) (contents : List (List ℕ)) (before now : ℕ) (begun : Bool) (left : Option (List ℕ)) (o : Outcome)
    → AreRead told (files_of asked) contents → (IsRefused q o → Makes asked contents (Denied o)) → IsRefusedOrWants q o → HasNoText told asked before now begun left o
refused_has_none told asked q contents before now begun left o are denied refused =
    ⊎_elim
    (λ (x : o ≡ OutOfMemory). wants_only told asked before now begun left o x)
    (λ (x : IsRefused q o). judged_only told asked before now begun left o (refused_judged q o x) (inr record { contents = contents; are_read = are; denied = denied x }))
    refused

pub unbuilt_has_none : (told : Told) (asked : Asked) (before now : ℕ) (begun : Bool) (left : Option (List ℕ)) → AreRead told (files_of asked) [] → Makes asked [] (Denied NotBuilt) → HasNoText told asked before now begun left NotBuilt
unbuilt_has_none told asked before now begun left are denied = judged_only told asked before now begun left NotBuilt tt (inr record { contents = []; are_read = are; denied = denied })

-- a text of these bytes
pub ok_text : {E : Type 0} (r : Result (List ℕ) E) (bytes : List ℕ) (P : List ℕ → Type 0) → IfOk r (λ t. t ≡ bytes) → P bytes → IfOk r P
ok_text (Ok t) bytes P e p = subst P (sym e) p
ok_text (Err e) bytes P is p = tt

-- the count of faults was lower before another file was read
later_rose : (before between now : ℕ) → before ≤ between → Rose between now → Rose before now
later_rose before between now le rose = omega (arith, le, rose)

pub later_unread : (told : Told) (file : Wanted) (before between now : ℕ) (begun : Bool) (left : Option (List ℕ)) (o : Outcome) → before ≤ between → IsUnread told file between now begun left o
    → IsUnread told file before now begun left o
later_unread told file before between now begun left o le unread =
    ⊎_elim
    (λ (x : o ≡ OutOfMemory). inl x)
    (λ (x : ((o ≡ ReadFault) × MayFail told file.name between now) ⊎ ((o ≡ TooLarge file.name) × IsOverLimit told file begun left)). ⊎_elim
    (λ (y : (o ≡ ReadFault) × MayFail told file.name between now).
    inr (inl (y.0, ⊎_elim (λ (z : Rose between now). inl (later_rose before between now le z)) (λ (z : IsMissing told file.name). inr z) y.1)))
    (λ (y : (o ≡ TooLarge file.name) × IsOverLimit told file begun left). inr (inr y)) x)
    unread

-- the second file of two is not read
pub second_has_none : (told : Told) (asked : Asked) (first second : Wanted) (bytes : List ℕ) (before between now : ℕ) (begun : Bool) (left : Option (List ℕ)) (o : Outcome) → files_of asked ≡ first ∷ second ∷ []
    → IsRead told first bytes → before ≤ between → IsUnread told second between now begun left o → HasNoText told asked before now begun left o
second_has_none told asked first second bytes before between now begun left o files is_read le unread =
    unread_has_none told asked second before now begun left o
    (λ missing. subst (λ (fs : List Wanted). IsOneMissing told fs) (sym files) (inr (bytes, is_read, inl missing)))
    (λ longer. subst (λ (fs : List Wanted). IsTooLarge told fs second.name) (sym files) (inr (bytes, is_read, inl (refl, longer))))
    (λ taken. subst (λ (fs : List Wanted). TakesOneMore told fs left second.name) (sym files) (inr (bytes, is_read, inl (refl, taken))))
    (later_unread told second before between now begun left o le unread)

-- the data begin with no item
pub none_has_none : (told : Told) (s : SchemaAsked) (d schema input : List ℕ) (before now : ℕ) (begun : Bool) (left : Option (List ℕ)) → AreRead told (files_of (read s d)) (schema ∷ input ∷ []) → BeginWithNone (request_for schema s) input
    → HasNoText told (read s d) before now begun left NoEncoding
none_has_none told s d schema input before now begun left are none = judged_only told (read s d) before now begun left NoEncoding tt (inr record { contents = schema ∷ input ∷ []; are_read = are; denied = inr (none, refl) })

pub wants_has_none : (told : Told) (asked : Asked) (before now : ℕ) (begun : Bool) (left : Option (List ℕ)) → HasNoText told asked before now begun left OutOfMemory
wants_has_none told asked before now begun left = wants_only told asked before now begun left OutOfMemory refl

-- ---- C files

halted_judged : (p : Program) (name input : List ℕ) (steps : ℕ) (o : Outcome) → IsHalted p name input steps o → IsJudged o
halted_judged p name input steps o (inl a) = subst IsJudged (sym a.1) tt
halted_judged p name input steps o (inr (inl a)) = subst IsJudged (sym a.is) tt
halted_judged p name input steps o (inr (inr a)) = subst IsJudged (sym a.is) tt

not_run_judged : (c_text name input : List ℕ) (steps : ℕ) (o : Outcome) → IsNotRun c_text name input steps o → IsJudged o
not_run_judged c_text name input steps o (inl a) = subst IsJudged (sym a.2) tt
not_run_judged c_text name input steps o (inr (inl a)) = subst IsJudged (sym a.4) tt
not_run_judged c_text name input steps o (inr (inr a)) = halted_judged a.0 name input steps o a.2

-- the C text is refused, or the call does not return
pub not_run_has_none : (told : Told) (c f d : List ℕ) (steps : ℕ) (c_text input : List ℕ) (before now : ℕ) (begun : Bool) (left : Option (List ℕ)) (o : Outcome) → AreRead told (files_of (run c f d steps)) (c_text ∷ input ∷ [])
    → (o ≡ OutOfMemory) ⊎ IsNotRun c_text f input steps o → HasNoText told (run c f d steps) before now begun left o
not_run_has_none told c f d steps c_text input before now begun left o are (inl x) = wants_only told (run c f d steps) before now begun left o x
not_run_has_none told c f d steps c_text input before now begun left o are (inr x) =
    judged_only told (run c f d steps) before now begun left o (not_run_judged c_text f input steps o x) (inr record { contents = c_text ∷ input ∷ []; are_read = are; denied = x })

pub c_refused : (c_text name input : List ℕ) (steps : ℕ) (o : Outcome) → (o ≡ OutOfMemory) ⊎ (HasNoProgram c_text o ⊎ BreaksRule c_text o) → (o ≡ OutOfMemory) ⊎ IsNotRun c_text name input steps o
c_refused c_text name input steps o (inl x) = inl x
c_refused c_text name input steps o (inr (inl x)) = inr (inl x)
c_refused c_text name input steps o (inr (inr x)) = inr (inr (inl x))

pub c_halted : (c_text : List ℕ) (p : Program) (name input : List ℕ) (steps : ℕ) (o : Outcome) → IsSpelling p c_text → IsValid p → (o ≡ OutOfMemory) ⊎ IsHalted p name input steps o → (o ≡ OutOfMemory) ⊎ IsNotRun c_text name input steps o
c_halted c_text p name input steps o spells valid (inl x) = inl x
c_halted c_text p name input steps o spells valid (inr x) = inr (inr (inr (p, record { spells = spells; valid = valid }, x)))
