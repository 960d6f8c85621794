-- Words and told contents ask for one thing.
use Rattle.std.proofs.Common.{◌≡◌, ℕ, ◌⊎◌, ⊎_elim, inl, inr, List, arith, refl, ap, sym, ◌∙◌, subst}
use Rattle.std.specs.Prelude.{Some, None, IsSome}
use Rattle.ecd_outside.specs.Told.{Told}
use Rattle.ecd_outside.specs.Causes.{IsFaultFree, Rose}
use Rattle.ecd_commands.specs.Asked.{Asked}
use Rattle.ecd_commands.specs.Outcomes.{Outcome, status_of, Done, NoEncoding, Broken, Usage, ReadFault, WriteFault, TooLarge, OutOfMemory, NoSpelling, BreaksC, Stuck, Spent, NoFunction, NotBuilt}
use Rattle.ecd_commands.specs.Files.{files_of, IsOneMissing}
use Rattle.ecd_commands.specs.Causes.{Denied, Makes, IsTooLargeFor, IsDeniedFor, IsAcceptedFor, IsDue, IsText, IsDecided, MayFailToRead}
use Rattle.ecd_commands.specs.Ends.{OneIsDue}
use Rattle.ecd_commands.specs.declared.status.Status.{Status}
use Rattle.ecd_commands.specs.declared.status.Status.TheVariants as statuses
use Rattle.ecd_commands.proofs.Reading.{Contents, one_content, one_too_large, large_or_missing, large_or_read, missing_or_read}
use Rattle.ecd_commands.proofs.Denying.{denied_once, denied_or_accepted, text_accepted}

one_due : (contents : Contents) (asked : Asked) (o p : Outcome) → IsDue (Some contents) asked o → IsDue (Some contents) asked p → o ≡ p
one_due contents asked o p a b =
    ⊎_elim
    (λ (x : IsTooLargeFor (Some contents) asked o). ⊎_elim
    (λ (y : IsTooLargeFor (Some contents) asked p). x.is ∙ ap TooLarge (one_too_large contents (files_of asked) x.name y.name x.large y.large) ∙ sym y.is)
    (λ (y : IsDeniedFor (Some contents) asked p). absurd (large_or_read contents (files_of asked) x.name y.contents x.large y.are_read)) b)
    (λ (x : IsDeniedFor (Some contents) asked o). ⊎_elim
    (λ (y : IsTooLargeFor (Some contents) asked p). absurd (large_or_read contents (files_of asked) y.name x.contents y.large x.are_read))
    (λ (y : IsDeniedFor (Some contents) asked p).
    let same : x.contents ≡ y.contents = one_content contents (files_of asked) x.contents y.contents x.are_read y.are_read in
    denied_once asked y.contents o p (subst (λ (c : List (List ℕ)). Makes asked c (Denied o)) same x.denied) y.denied) b)
    a

due_or_accepted : (contents : Contents) (asked : Asked) (o : Outcome) → IsDue (Some contents) asked o → IsAcceptedFor (Some contents) asked → ⊥
due_or_accepted contents asked o a t =
    ⊎_elim
    (λ (x : IsTooLargeFor (Some contents) asked o). large_or_read contents (files_of asked) x.name t.contents x.large t.are_read)
    (λ (x : IsDeniedFor (Some contents) asked o).
    let same : x.contents ≡ t.contents = one_content contents (files_of asked) x.contents t.contents x.are_read t.are_read in
    denied_or_accepted asked t.contents o (subst (λ (c : List (List ℕ)). Makes asked c (Denied o)) same x.denied) t.accepted)
    a

due_or_text : (contents : Contents) (asked : Asked) (o : Outcome) (text : List ℕ) → IsDue (Some contents) asked o → IsText (Some contents) asked text → ⊥
due_or_text contents asked o text a t = due_or_accepted contents asked o a record { contents = t.contents; are_read = t.are_read; accepted = text_accepted asked t.contents text t.is }

due_or_missing : (contents : Contents) (asked : Asked) (o : Outcome) → IsDue (Some contents) asked o → IsOneMissing (Some contents) (files_of asked) → ⊥
due_or_missing contents asked o a m =
    ⊎_elim
    (λ (x : IsTooLargeFor (Some contents) asked o). large_or_missing contents (files_of asked) x.name x.large m)
    (λ (x : IsDeniedFor (Some contents) asked o). missing_or_read contents (files_of asked) x.contents m x.are_read)
    a

pub one_is_due : OneIsDue
one_is_due = record { one = one_due; none = due_or_accepted }

-- ---- what is left of the outcomes

not_rose : (before now : ℕ) → IsFaultFree before now → Rose before now → ⊥
not_rose before now free rose = absurd (omega (arith, rose, free.0, free.1))

decided_or_not : (o : Outcome) → IsDecided o ⊎ ((o ≡ Done) ⊎ ((o ≡ Usage) ⊎ ((o ≡ ReadFault) ⊎ ((o ≡ WriteFault) ⊎ (o ≡ OutOfMemory)))))
decided_or_not Done = inr (inl refl)
decided_or_not NoEncoding = inl tt
decided_or_not (Broken l c p r) = inl tt
decided_or_not Usage = inr (inr (inl refl))
decided_or_not ReadFault = inr (inr (inr (inl refl)))
decided_or_not WriteFault = inr (inr (inr (inr (inl refl))))
decided_or_not (TooLarge n) = inl tt
decided_or_not OutOfMemory = inr (inr (inr (inr (inr refl))))
decided_or_not (NoSpelling p) = inl tt
decided_or_not (BreaksC r i s) = inl tt
decided_or_not (Stuck r i s) = inl tt
decided_or_not (Spent n) = inl tt
decided_or_not (NoFunction n) = inl tt
decided_or_not NotBuilt = inl tt

by_kind : (o : Outcome) (P : Type 0) → (IsDecided o → P) → (o ≡ Done → P) → (o ≡ Usage → P) → (o ≡ ReadFault → P) → (o ≡ WriteFault → P) → (o ≡ OutOfMemory → P) → P
by_kind o P decided done usage fault out wants =
    ⊎_elim decided
    (λ (a : (o ≡ Done) ⊎ ((o ≡ Usage) ⊎ ((o ≡ ReadFault) ⊎ ((o ≡ WriteFault) ⊎ (o ≡ OutOfMemory))))). ⊎_elim done
    (λ (b : (o ≡ Usage) ⊎ ((o ≡ ReadFault) ⊎ ((o ≡ WriteFault) ⊎ (o ≡ OutOfMemory)))). ⊎_elim usage
    (λ (c : (o ≡ ReadFault) ⊎ ((o ≡ WriteFault) ⊎ (o ≡ OutOfMemory))). ⊎_elim fault
    (λ (d : (o ≡ WriteFault) ⊎ (o ≡ OutOfMemory)). ⊎_elim out wants d) c) b) a)
    (decided_or_not o)

-- where a refusal is due and reading meets no fault
due_left : (contents : Contents) (asked : Asked) (o due : Outcome) (before now : ℕ)
    → (o ≡ Usage → ⊥) → (o ≡ ReadFault → MayFailToRead (Some contents) asked before now) → (IsDecided o → IsDue (Some contents) asked o)
    → (o ≡ Done → (text : List ℕ) × IsText (Some contents) asked text) → (o ≡ WriteFault → (text : List ℕ) × IsText (Some contents) asked text)
    → IsDue (Some contents) asked due → IsFaultFree before now → (o ≡ due) ⊎ (o ≡ OutOfMemory)
due_left contents asked o due before now usage fault decided done front d free =
    by_kind o ((o ≡ due) ⊎ (o ≡ OutOfMemory)) (λ is. inl (one_due contents asked o due (decided is) d))
    (λ e. let t = done e in absurd (due_or_text contents asked due t.0 d t.1)) (λ e. absurd (usage e))
    (λ e. ⊎_elim (λ (x : Rose before now). absurd (not_rose before now free x)) (λ (x : IsOneMissing (Some contents) (files_of asked)). absurd (due_or_missing contents asked due d x)) (fault e))
    (λ e. let t = front e in absurd (due_or_text contents asked due t.0 d t.1)) (λ e. inr e)

-- where a text is due and neither reading nor writing meets a fault
text_left : (contents : Contents) (asked : Asked) (o : Outcome) (before now out_before out_now : ℕ)
    → (o ≡ Usage → ⊥) → (o ≡ ReadFault → MayFailToRead (Some contents) asked before now) → (IsDecided o → IsDue (Some contents) asked o)
    → (o ≡ WriteFault → Rose out_before out_now)
    → IsAcceptedFor (Some contents) asked → IsFaultFree before now → IsFaultFree out_before out_now → (o ≡ Done) ⊎ (o ≡ OutOfMemory)
text_left contents asked o before now ob on usage fault decided out t free free_out =
    by_kind o ((o ≡ Done) ⊎ (o ≡ OutOfMemory)) (λ is. absurd (due_or_accepted contents asked o (decided is) t))
    (λ e. inl e) (λ e. absurd (usage e))
    (λ e. ⊎_elim (λ (x : Rose before now). absurd (not_rose before now free x)) (λ (x : IsOneMissing (Some contents) (files_of asked)). absurd (missing_or_read contents (files_of asked) t.contents x t.are_read)) (fault e))
    (λ e. absurd (not_rose ob on free_out (out e))) (λ e. inr e)

pub due_is_left : (told : Told) (asked : Asked) (o due : Outcome) (before now : ℕ)
    → (o ≡ Usage → ⊥) → (o ≡ ReadFault → MayFailToRead told asked before now) → (IsDecided o → IsDue told asked o)
    → (o ≡ Done → (text : List ℕ) × IsText told asked text) → (o ≡ WriteFault → (text : List ℕ) × IsText told asked text)
    → IsSome told → IsDue told asked due → IsFaultFree before now → (o ≡ due) ⊎ (o ≡ OutOfMemory)
due_is_left None asked o due before now usage fault decided done front some d free = let none : ⊥ = cc in absurd none
due_is_left (Some contents) asked o due before now usage fault decided done front some d free = due_left contents asked o due before now usage fault decided done front d free

pub text_is_left : (told : Told) (asked : Asked) (o : Outcome) (before now out_before out_now : ℕ)
    → (o ≡ Usage → ⊥) → (o ≡ ReadFault → MayFailToRead told asked before now) → (IsDecided o → IsDue told asked o) → (o ≡ WriteFault → Rose out_before out_now)
    → IsSome told → IsAcceptedFor told asked → IsFaultFree before now → IsFaultFree out_before out_now → (o ≡ Done) ⊎ (o ≡ OutOfMemory)
text_is_left None asked o before now ob on usage fault decided out some t free free_out = let none : ⊥ = cc in absurd none
text_is_left (Some contents) asked o before now ob on usage fault decided out some t free free_out = text_left contents asked o before now ob on usage fault decided out t free free_out

-- ---- statuses

pub status_left : (s : Status) (o due : Outcome) → s ≡ status_of o → (o ≡ due) ⊎ (o ≡ OutOfMemory) → (s ≡ status_of due) ⊎ (s ≡ statuses.OutOfMemory)
status_left s o due e left = ⊎_elim (λ (x : o ≡ due). inl (e ∙ ap status_of x)) (λ (x : o ≡ OutOfMemory). inr (e ∙ ap status_of x)) left

pub is_done : (o : Outcome) → status_of o ≡ statuses.Done → o ≡ Done
is_done Done e = refl
is_done o e = let none : ⊥ = cc in absurd none

pub is_write_fault : (o : Outcome) → status_of o ≡ statuses.WriteFault → o ≡ WriteFault
is_write_fault WriteFault e = refl
is_write_fault o e = let none : ⊥ = cc in absurd none

pub is_too_large : (o : Outcome) → status_of o ≡ statuses.TooLarge → (name : List ℕ) × (o ≡ TooLarge name)
is_too_large (TooLarge name) e = (name, refl)
is_too_large o e = let none : ⊥ = cc in absurd none
