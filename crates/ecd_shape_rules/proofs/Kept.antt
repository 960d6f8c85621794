-- Demands that hold: in two lists one after another, and that none of them is broken.
use Rattle.std.proofs.Common.{inl, inr, List, [], ◌∷◌, ◌++◌}
use Rattle.ecd_core.specs.Lists.{Each}
use Rattle.ecd_shape_rules.specs.declared.rule.Rule.{Rule}
use Rattle.ecd_shape_rules.specs.Demands.{Demand, IsBrokenIn}
use Rattle.ecd_shape_rules.specs.Laws.{KeepingBreaksNone}

-- all that is demanded holds
abbrev pub Kept : List Demand → Type 0
Kept demanded = Each (λ (d : Demand). d.holds) demanded

pub kept_both : (xs ys : List Demand) → Kept (xs ++ ys) → Kept xs × Kept ys
kept_both [] ys h = (tt, h)
kept_both (x ∷ xs) ys h = let both = kept_both xs ys h.1 in ((h.0, both.0), both.1)

none_broken : (demanded : List Demand) (rule : Rule) (place : _) → Kept demanded → IsBrokenIn demanded rule place → ⊥
none_broken [] rule place h b = b
none_broken (d ∷ demanded) rule place h (inl b) = b.2 h.0
none_broken (d ∷ demanded) rule place h (inr b) = none_broken demanded rule place h.1 b

pub keeping_breaks_none : KeepingBreaksNone
keeping_breaks_none shape rule place h b = none_broken _ rule place h b
