-- Which cases pass: those whose compiled reader takes as many bytes as the case says.
use Rattle.std.specs.Prelude.{ℕ, ◌≡◌, ◌≤◌, ◌<◌, ◌↔◌, Bool, true, false, List, [], ◌∷◌, Option, Some, None, Ok, length, get_or}
use Rattle.std.specs.List.{count_by}
use Rattle.hex.specs.Hex.{decode_of}
use Rattle.ecd_keyorder.specs.declared.Order.TheVariants.{Bytewise}
use Rattle.ecd_judge.specs.Request.{Request, request}
use Rattle.ecd_compile.specs.Schema.{IsNumber}
use Rattle.ecd_reader.specs.Takes.{Takes}
use Rattle.ecd_vectors.specs.declared.case.Case.{Case}
use Rattle.ecd_vectors.specs.declared.report.Report.{Report}

-- what a case asks of its schema
abbrev pub request_of : Case → Request
request_of case = request case.schema.now case.root.now case.depth Bytewise

-- the case is within the limits
pub record IsWithin (case : Case) : Type 0 where
  pub shallow : case.depth ≤ 32
  pub short : length case.schema.now ≤ 262144
  pub few : length case.bytes.now ≤ 33554432

-- the schema is compiled, the digits are those of bytes, and of these the reader takes as many as are said
pub record Passes (case : Case) : Type 0 where
  pub within : IsWithin case
  pub bytes : List ℕ
  pub digits : decode_of case.bytes.now ≡ Ok bytes
  pub number : ℕ
  pub is_number : IsNumber (request_of case) number
  pub takes : Takes number bytes case.consumed

-- a verdict for each case, true exactly where it passes
abbrev pub AreVerdicts : List Case → List Bool → Type 0
AreVerdicts [] [] = Unit {0}
AreVerdicts [] (verdict ∷ verdicts) = ⊥
AreVerdicts (case ∷ cases) [] = ⊥
AreVerdicts (case ∷ cases) (verdict ∷ verdicts) = ((verdict ≡ true) ↔ Passes case) × AreVerdicts cases verdicts

-- the first that is false, if one is
abbrev pub IsFirstFalse : List Bool → Option ℕ → Type 0
IsFirstFalse verdicts None = (i : ℕ) → i < length verdicts → get_or verdicts i false ≡ true
IsFirstFalse verdicts (Some at) = (at < length verdicts) × (get_or verdicts at true ≡ false) × ((i : ℕ) → i < at → get_or verdicts i false ≡ true)

-- how many cases pass, and the number of the first that does not
pub record IsReport (cases : List Case) (report : Report) : Type 0 where
  pub verdicts : List Bool
  pub are : AreVerdicts cases verdicts
  pub passed : report.passed ≡ count_by (λ v. v) verdicts
  pub first : IsFirstFalse verdicts report.first_failed
