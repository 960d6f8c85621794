-- Each cause of a refusal rules out the others.
use Rattle.std.proofs.Common.{◌≡◌, ℕ, ◌⊎◌, inl, inr, List, refl, ◌∙◌, sym, subst}
use Rattle.ecd_syntax.specs.declared.tree.Rule.{Rule}
use Rattle.ecd_judge.specs.declared.refusal.Refusal.{Refusal}
use Rattle.ecd_judge.specs.declared.refusal.Refusal.TheVariants.{NotUtf8, Lex, Parse, Name, NotBuilt, OutOfMemory}
use Rattle.ecd_judge.specs.Request.{Request}
use Rattle.ecd_judge.specs.Schema.{IsSound, IsTold, HasCause as HasJudgedCause}
use Rattle.ecd_judge.proofs.Causes as judged
use Rattle.ecd_compile.specs.Thin.{IsThin}
use Rattle.ecd_compile.specs.Schema.{IsNumber, IsNotThin, HasCause, HasOneCause}
use Rattle.ecd_compile.specs.Reads.{IsNeverRefused}
use Rattle.ecd_compile.proofs.LoneRule.{one_thin}

-- a cause is that the schema is not compiled yet, or one that it breaks
abbrev IsOf : Request → Refusal → Type 0
IsOf q r = (IsNotThin q × (r ≡ NotBuilt)) ⊎ HasJudgedCause q r

cause_of : (q : Request) (r : Refusal) → HasCause q r → IsOf q r
cause_of q (NotUtf8 place) h = inr h
cause_of q (Lex place rule) h = inr h
cause_of q (Parse place rule) h = inr h
cause_of q (Name place rule) h = inr h
cause_of q NotBuilt h = inl (h, refl)
cause_of q OutOfMemory h = inr h

pub judged_cause : (q : Request) (r : Refusal) → HasJudgedCause q r → HasCause q r
judged_cause q (NotUtf8 place) h = h
judged_cause q (Lex place rule) h = h
judged_cause q (Parse place rule) h = h
judged_cause q (Name place rule) h = h
judged_cause q NotBuilt h = absurd h
judged_cause q OutOfMemory h = h

same_cause : (q : Request) (r s : Refusal) → IsTold r → IsTold s → IsOf q r → IsOf q s → r ≡ s
same_cause q r s x y (inl a) (inl b) = a.1 ∙ sym b.1
same_cause q r s x y (inl a) (inr b) = absurd (judged.never_refused q a.0.rules s a.0.sound y b)
same_cause q r s x y (inr a) (inl b) = absurd (judged.never_refused q b.0.rules r b.0.sound x a)
same_cause q r s x y (inr a) (inr b) = judged.one_cause q r s x y a b

pub one_cause : HasOneCause
one_cause q r s x y a b = same_cause q r s x y (cause_of q r a) (cause_of q s b)

number_or_none : (q : Request) (number : ℕ) → IsNumber q number → IsNotThin q → ⊥
number_or_none q number is none = none.other number (subst (λ (l : List Rule). IsThin l q.root number) (judged.one_meaning q is.rules none.rules is.sound none.sound) is.thin)

never_of : (q : Request) (number : ℕ) (r : Refusal) → IsNumber q number → IsTold r → IsOf q r → ⊥
never_of q number r is x (inl a) = number_or_none q number is a.0
never_of q number r is x (inr a) = judged.never_refused q is.rules r is.sound x a

pub never_refused : IsNeverRefused
never_refused q number r is x a = never_of q number r is x (cause_of q r a)

-- a schema stands for one number
pub one_number : (q : Request) (m n : ℕ) → IsNumber q m → IsNumber q n → m ≡ n
one_number q m n a b =
    let same : b.rules ≡ a.rules = judged.one_meaning q b.rules a.rules b.sound a.sound in
    one_thin a.rules q.root m n a.thin (subst (λ (l : List Rule). IsThin l q.root n) same b.thin)

-- ---- from rules that are the same

module _ (q : Request) (names rules : List Rule) (sound : IsSound q names) (same : rules ≡ names) where
  sound_too : IsSound q rules
  sound_too = record { tree = sound.tree; parsed = sound.parsed; sound = sound.sound; is = same ∙ sound.is }

  pub number_of : (n : ℕ) → IsThin rules q.root n → IsNumber q n
  number_of n thin = record { rules = rules; sound = sound_too; thin = thin }

  pub none_of : ((n : ℕ) → IsThin rules q.root n → ⊥) → IsNotThin q
  none_of other = record { rules = rules; sound = sound_too; other = other }
