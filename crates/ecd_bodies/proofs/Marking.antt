-- The marks of which the last alone is set.
use Rattle.std.proofs.Common.{◌≡◌, ◌↔◌, inl, inr, ℕ, ◌<◌, ◌≤◌, true, false, [], ◌∷◌, ◌++◌, length, get_or, replicate, sym, ap, ◌∙◌, arith}
use Rattle.std.proofs.lemmas.Bool.{cases_lt, cases_eq}
use Rattle.std.proofs.lemmas.List.{get_or-replicate, get_or_past, get_or_append_left, length_push, length-replicate}
use Rattle.std.proofs.Math.Seq.{get_or-append_seam}
use Rattle.ecd_graph.specs.Graphs.{IsMarked}

pub marks_source : (n node : ℕ) → IsMarked (replicate n false ++ true ∷ []) node ↔ (node ≡ n)
marks_source n node = (there, back)
  where
    counted : length (replicate n false) ≡ n
    counted = length-replicate n false

    back : node ≡ n → IsMarked (replicate n false ++ true ∷ []) node
    back is = ap (λ (i : ℕ). get_or (replicate n false ++ true ∷ []) i false) (is ∙ sym counted) ∙ get_or-append_seam (replicate n false) true [] false

    before : node < n → IsMarked (replicate n false ++ true ∷ []) node → node ≡ n
    before lt m =
        let inside : node < length (replicate n false) = omega (arith, counted, lt) in
        let no_mark : false ≡ true = sym (get_or_append_left (replicate n false) (true ∷ []) false node inside ∙ get_or-replicate n node false false lt) ∙ m in
        cc

    behind : n < node → IsMarked (replicate n false ++ true ∷ []) node → node ≡ n
    behind lt m =
        let past : length (replicate n false ++ true ∷ []) ≤ node = omega (arith, counted, length_push (replicate n false) true, lt) in
        let no_mark : false ≡ true = sym (get_or_past (replicate n false ++ true ∷ []) node false past) ∙ m in
        cc

    there : IsMarked (replicate n false ++ true ∷ []) node → node ≡ n
    there m = elim (cases_lt node n) [ inl lt ↦ before lt m | inr le ↦ elim (cases_eq node n) [ inl is ↦ is | inr ne ↦ behind (omega (arith, le, ne)) m ] ]
