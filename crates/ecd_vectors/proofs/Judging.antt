-- Cases and their verdicts.
use Rattle.std.proofs.Common.{◌≡◌, ℕ, zero, suc, ◌+◌, ◌<◌, ◌≤◌, ◌^◌, ⊎_elim, Bool, true, false, nat_eq, List, [], ◌∷◌, ◌++◌, length, take, get_or, refl, ap, sym, ◌∙◌, subst, arith}
use Rattle.std.specs.Prelude.{◌↔◌, ◌≢◌, Result, Ok, Err, IfErr}
use Rattle.std.proofs.lemmas.List.{take_more}
use Rattle.hex.specs.Hex.{decode_of}
use Rattle.hex.proofs.HexLemmas.{decode_of-ok}
use Rattle.ecd_cast.specs.declared.tree.Program.{Program}
use Rattle.ecd_judge.specs.declared.refusal.Refusal.{Refusal}
use Rattle.ecd_judge.specs.declared.refusal.Refusal.TheVariants.{OutOfMemory}
use Rattle.ecd_compile.specs.Schema.{IsNumber}
use Rattle.ecd_compile.specs.Reads.{IsCompiled}
use Rattle.ecd_compile.proofs.Causes.{one_number}
use Rattle.ecd_reader.specs.Takes.{BeginsWith, Takes}
use Rattle.ecd_vectors.specs.declared.case.Case.{Case}
use Rattle.ecd_vectors.specs.Passing.{request_of, IsWithin, Passes, AreVerdicts}

-- ---- verdicts

verdict_behind : (cases : List Case) (verdicts : List Bool) (case : Case) (verdict : Bool) → AreVerdicts cases verdicts → ((verdict ≡ true) ↔ Passes case) → AreVerdicts (cases ++ case ∷ []) (verdicts ++ verdict ∷ [])
verdict_behind [] [] case verdict are is = (is, tt)
verdict_behind [] (v ∷ vs) case verdict are is = absurd are
verdict_behind (c ∷ cs) [] case verdict are is = absurd are
verdict_behind (c ∷ cs) (v ∷ vs) case verdict are is = (are.0, verdict_behind cs vs case verdict are.1 is)

pub grown : (cases : List Case) (verdicts new : List Bool) (i : ℕ) (case : Case) (verdict : Bool) → i < length cases → case ≡ get_or cases i case → AreVerdicts (take i cases) verdicts
    → ((verdict ≡ true) ↔ Passes case) → new ≡ verdicts ++ verdict ∷ [] → AreVerdicts (take (i + 1) cases) new
grown cases verdicts new i case verdict lt e are is n =
    let taken : take (i + 1) cases ≡ take i cases ++ case ∷ [] = take_more cases i case lt ∙ ap (λ (c : Case). take i cases ++ c ∷ []) (sym e) in
    subst (λ (cs : List Case). AreVerdicts cs new) (sym taken) (subst (λ (vs : List Bool). AreVerdicts (take i cases ++ case ∷ []) vs) (sym n) (verdict_behind (take i cases) verdicts case verdict are is))

take_all : {A : Type 0} (xs : List A) (n : ℕ) → length xs ≤ n → take n xs ≡ xs
take_all [] zero h = refl
take_all [] (suc n) h = refl
take_all (x ∷ xs) zero h = absurd (omega arith)
take_all (x ∷ xs) (suc n) h = ap (λ l. x ∷ l) (take_all xs n (omega arith))

pub whole : (cases : List Case) (verdicts : List Bool) (i : ℕ) → length cases ≤ i → AreVerdicts (take i cases) verdicts → AreVerdicts cases verdicts
whole cases verdicts i le are = subst (λ (cs : List Case). AreVerdicts cs verdicts) (take_all cases i le) are

pub as_many : (cases : List Case) (verdicts : List Bool) → AreVerdicts cases verdicts → length verdicts ≡ length cases
as_many [] [] are = refl
as_many [] (v ∷ vs) are = absurd are
as_many (c ∷ cs) [] are = absurd are
as_many (c ∷ cs) (v ∷ vs) are = ap suc (as_many cs vs are.1)

-- ---- a case

pub fewer : (digits bytes : List ℕ) → decode_of digits ≡ Ok bytes → length digits ≤ 33554432 → length bytes < 2 ^ 62
fewer digits bytes h le = let k = decode_of-ok digits bytes h in omega (arith, k.2, le)

pub not_compiled : {A : Type 0} (result : Result A Refusal) (refusal : Refusal) → result ≡ Err refusal → (refusal ≡ OutOfMemory → ⊥) → IfErr result (λ r. r ≡ OutOfMemory) → ⊥
not_compiled {A = A} result refusal is other only = other (subst (λ (r : Result A Refusal). IfErr r (λ e. e ≡ OutOfMemory)) is only)

takes_once : (number : ℕ) (input : List ℕ) (m n : ℕ) → Takes number input m → Takes number input n → m ≡ n
takes_once number input m n a b =
    ⊎_elim
    (λ (x : (m ≡ 1) × BeginsWith number input). ⊎_elim (λ (y : (n ≡ 1) × BeginsWith number input). x.0 ∙ sym y.0) (λ (y : (n ≡ 0) × (BeginsWith number input → ⊥)). absurd (y.1 x.1)) b)
    (λ (x : (m ≡ 0) × (BeginsWith number input → ⊥)). ⊎_elim (λ (y : (n ≡ 1) × BeginsWith number input). absurd (x.1 y.1)) (λ (y : (n ≡ 0) × (BeginsWith number input → ⊥)). x.0 ∙ sym y.0) b)
    a

equal_bool : (m n : ℕ) → m ≡ n → nat_eq m n ≡ true
equal_bool m n e = grind (arith, e)

bool_equal : (m n : ℕ) → nat_eq m n ≡ true → m ≡ n
bool_equal m n e = grind (arith, e)

pub judged : (case : Case) (bytes text : List ℕ) (program : Program) (taken : ℕ) → IsWithin case → decode_of case.bytes.now ≡ Ok bytes → (compiled : IsCompiled (request_of case) text program)
    → Takes compiled.number bytes taken → (nat_eq taken case.consumed ≡ true) ↔ Passes case
judged case bytes text program taken within digits compiled takes = (
  (λ (e : nat_eq taken case.consumed ≡ true). record {
    within = within;
    bytes = bytes;
    digits = digits;
    number = compiled.number;
    is_number = compiled.is_number;
    takes = subst (λ (n : ℕ). Takes compiled.number bytes n) (bool_equal taken case.consumed e) takes;
  }),
  (λ (p : Passes case).
      let same : p.bytes ≡ bytes = cc (sym p.digits ∙ digits) in
      let number : p.number ≡ compiled.number = one_number (request_of case) p.number compiled.number p.is_number compiled.is_number in
      let takes_bytes : Takes p.number bytes case.consumed = subst (λ (b : List ℕ). Takes p.number b case.consumed) same p.takes in
      let takes_too : Takes compiled.number bytes case.consumed = subst (λ (n : ℕ). Takes n bytes case.consumed) number takes_bytes in
      equal_bool taken case.consumed (takes_once compiled.number bytes taken case.consumed takes takes_too)),
)

pub no_bytes : (case : Case) → ((bytes : List ℕ) → decode_of case.bytes.now ≢ Ok bytes) → (false ≡ true) ↔ Passes case
no_bytes case none = ((λ (e : false ≡ true). cc), (λ (p : Passes case). absurd (none p.bytes p.digits)))

pub no_schema : (case : Case) → ((number : ℕ) → IsNumber (request_of case) number → ⊥) → (false ≡ true) ↔ Passes case
no_schema case none = ((λ (e : false ≡ true). cc), (λ (p : Passes case). absurd (none p.number p.is_number)))
