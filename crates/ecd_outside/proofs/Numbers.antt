-- The number of a file among files in memory.
use Rattle.std.proofs.Common.{◌≡◌, ℕ, zero, suc, ◌<◌, Bool, true, false, cond, List, [], ◌∷◌, length, refl, ap, sym, ◌∙◌, subst, arith}
use Rattle.std.specs.Prelude.{Option, Some, None, MatchOption, position, slice_get, unwrap_or, nat_lt}
use Rattle.std.specs.List.{position_or_len}
use Rattle.std.specs.Option.{option_map}
use Rattle.std.specs.Str.{bytes_eq}
use Rattle.std.proofs.lemmas.List.Folds.{find_at}
use Rattle.std.proofs.lemmas.Option.{slice_get_past}
use Rattle.std.proofs.lemmas.Bool.{ltb-true, ltb-false}
use Rattle.ecd_outside.specs.declared.stored.StoredFile.{StoredFile}
use Rattle.ecd_outside.specs.Memory.{contents_in, left_at}

abbrev is_named : List ℕ → StoredFile → Bool
is_named name file = bytes_eq file.name name

abbrev contents : StoredFile → List ℕ
contents file = file.contents

some_at : (files : List StoredFile) (number : ℕ) → number < length files → option_map contents (slice_get files number) ≡ Some (unwrap_or (option_map contents (slice_get files number)) [])
some_at [] number lt = absurd (omega arith)
some_at (file ∷ files) zero lt = refl
some_at (file ∷ files) (suc number) lt = some_at files number (omega arith)

-- the number that `position` finds is that of the file whose contents `contents_in` gives
pub number_tells : (files : List StoredFile) (name : List ℕ) (number : Option ℕ) → number ≡ position (is_named name) files
    → MatchOption number (contents_in files name ≡ None) (λ n. contents_in files name ≡ Some (left_at files n 0))
number_tells files name number e =
    let P : Option ℕ → Type 0 = λ o. MatchOption o (contents_in files name ≡ None) (λ n. contents_in files name ≡ Some (left_at files n 0)) in
    subst P (sym e) (by_test (nat_lt (position_or_len (is_named name) files) (length files)) refl)
  where
    by_test : (b : Bool) → nat_lt (position_or_len (is_named name) files) (length files) ≡ b
        → MatchOption (cond b (Some (position_or_len (is_named name) files)) None) (contents_in files name ≡ None) (λ n. contents_in files name ≡ Some (left_at files n 0))
    by_test true is =
        let n = position_or_len (is_named name) files in
        ap (option_map contents) (find_at (is_named name) files) ∙ some_at files n (ltb-true n (length files) is)
    by_test false is =
        let n = position_or_len (is_named name) files in
        ap (option_map contents) (find_at (is_named name) files ∙ slice_get_past files n (ltb-false n (length files) is))
