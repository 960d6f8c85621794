-- Places that answers name, parts of windows, and the older words for runs.
use Rattle.std.proofs.Common.{◌≡◌, ℕ, ◌<◌, inl, inr, List, refl, ap, sym, subst, arith}
use Rattle.std.specs.Prelude.{◌≢◌}
use Rattle.ecd_cast.specs.Memory.{Event}
use Rattle.ecd_cast.specs.Meaning.{Run, Falls, Returns, Stuck}
use Rattle.ecd_calculus.specs.Ends.{Answers, Does}
use Rattle.ecd_emit.specs.Windows.{IsEnd}
use Rattle.ecd_acts.specs.Acts.{Meets, Never, Returns_with}
use Rattle.ecd_acts.specs.Ends.{Then, Or_else, EndsTogether, Silent, Just, AsAnswers, AsDoes}

-- ---- ends

pub ends_alike : {S T : ℕ → Type 0} {n : ℕ} → ((e : ℕ) → S e → T e) → ((e : ℕ) → T e → S e) → IsEnd S n → IsEnd T n
ends_alike f g h = record { found = λ ne. f _ (h.found ne); only = λ e t. h.only e (g e t) }

pub no_end : {S : ℕ → Type 0} → ((e : ℕ) → S e → ⊥) → IsEnd S 0
no_end h = record { found = λ ne. absurd (ne refl); only = λ e s. absurd (h e s) }

pub one_end : {S : ℕ → Type 0} {n : ℕ} → 0 < n → S n → ((e : ℕ) → S e → n ≡ e) → IsEnd S n
one_end {S} {n} lt s one = record { found = λ ne. s; only = λ e t. let same = one e t in (same, omega (arith, lt, same)) }

pub none_has : {S : ℕ → Type 0} → IsEnd S 0 → (e : ℕ) → S e → ⊥
none_has h e s = let r = h.only e s in absurd (omega (arith, r.0, r.1))

pub none_then : {S : ℕ → Type 0} {T : ℕ → ℕ → Type 0} → IsEnd S 0 → IsEnd (Then S T) 0
none_then h = no_end (λ e t. none_has h t.0 t.1)

pub ends_then : {S : ℕ → Type 0} {T : ℕ → ℕ → Type 0} {n k : ℕ} → IsEnd S n → n ≢ 0 → IsEnd (T n) k → IsEnd (Then S T) k
ends_then {T = T} {k = k} h ne t = record { found = λ nz. (_, h.found ne, t.found nz); only = λ e x. t.only e (subst (λ (j : ℕ). T j e) (sym (h.only x.0 x.1).0) x.2) }

pub ends_first : {S T : ℕ → Type 0} {n : ℕ} → IsEnd S n → n ≢ 0 → IsEnd (Or_else S T) n
ends_first {S} {T} {n} h ne = record {
  found = λ _. inl (h.found ne);
  only = λ e x. elim x [ inl s ↦ h.only e s | inr t ↦ absurd (t.0 n (h.found ne)) ];
}

pub ends_second : {S T : ℕ → Type 0} {k : ℕ} → IsEnd S 0 → IsEnd T k → IsEnd (Or_else S T) k
ends_second {S} {T} {k} h t = record {
  found = λ nz. inr (none_has h, t.found nz);
  only = λ e x. elim x [ inl s ↦ absurd (none_has h e s) | inr y ↦ t.only e y.1 ];
}

pub together : (S T : ℕ → Type 0) (B : ℕ → ℕ → Type 0) → EndsTogether S T B
together S T B = record {
  alike = λ n. ends_alike;
  none = no_end;
  one = λ n. one_end;
  is_none = none_has;
  none_then = none_then;
  behind = λ n k. ends_then;
  first = λ n. ends_first;
  second = λ k. ends_second;
}

-- ---- the older words

pub answers_said : {r : Run} {P : ℕ → Type 0} {most : ℕ} → Answers r P most → Returns_with r (Silent P most)
answers_said {r} {P} {most} h = record { meets = subst (λ (run : Run). Meets run (Silent P most) Never) (sym h.does.is) (h.does.wrote, h.has, h.does.short) }

answers_of : (r : Run) (P : ℕ → Type 0) (most : ℕ) → Meets r (Silent P most) Never → Answers r P most
answers_of (Returns n es) P most h = record { answer = n; does = record { events = es; is = refl; wrote = h.0; short = h.2 }; has = h.1 }
answers_of (Falls env es) P most h = absurd h
answers_of (Stuck r i s es) P most h = absurd h

pub answers_back : {r : Run} {P : ℕ → Type 0} {most : ℕ} → Returns_with r (Silent P most) → Answers r P most
answers_back {r} {P} {most} h = answers_of r P most h.meets

pub does_said : {r : Run} {n most : ℕ} {vs : List Event} → Does r n vs most → Returns_with r (Just n vs most)
does_said {r} {n} {most} {vs} h = record { meets = subst (λ (run : Run). Meets run (Just n vs most) Never) (sym h.is) (refl, h.wrote, h.short) }

does_of : (r : Run) (n most : ℕ) (vs : List Event) → Meets r (Just n vs most) Never → Does r n vs most
does_of (Returns x es) n most vs h = record { events = es; is = ap (λ (y : ℕ). Returns y es) h.0; wrote = h.1; short = h.2 }
does_of (Falls env es) n most vs h = absurd h
does_of (Stuck r i s es) n most vs h = absurd h

pub does_back : {r : Run} {n most : ℕ} {vs : List Event} → Returns_with r (Just n vs most) → Does r n vs most
does_back {r} {n} {most} {vs} h = does_of r n most vs h.meets

pub as_answers : (P : ℕ → Type 0) → AsAnswers P
as_answers P = record { said = λ r most. answers_said; back = λ r most. answers_back }

pub as_does : AsDoes
as_does = record { said = λ r n most vs. does_said; back = λ r n most vs. does_back }
