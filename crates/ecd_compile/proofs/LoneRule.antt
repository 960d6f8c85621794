-- A list of one rule.
use Rattle.std.proofs.Common.{◌≡◌, ℕ, ◌<◌, ◌≤◌, List, [], ◌∷◌, length, get_or, ap, sym, ◌∙◌, subst, arith}
use Rattle.std.specs.Prelude.{Option, Some, None, pos}
use Rattle.ecd_syntax.specs.declared.tree.Entry.{Entry}
use Rattle.ecd_syntax.specs.declared.tree.Type1.{Type1, out-Type1}
use Rattle.ecd_syntax.specs.declared.tree.Type2.{out-Type2}
use Rattle.ecd_syntax.specs.declared.tree.Form.{out-Form}
use Rattle.ecd_syntax.specs.declared.tree.Form.TheOpen as forms
use Rattle.ecd_syntax.specs.declared.tree.Literal.TheVariants.{Int}
use Rattle.ecd_syntax.specs.declared.tree.Rule.{Rule}
use Rattle.ecd_compile.specs.Thin.{IsLoneNumber, Defines, IsThin, IsFound}

list_of_one : {X : Type 0} (xs : List X) (x : X) → 1 ≤ length xs → length xs < 2 → x ≡ get_or xs 0 x → xs ≡ x ∷ []
list_of_one [] x h k e = absurd (omega arith)
list_of_one (y ∷ []) x h k e = ap (λ z. z ∷ []) (sym e)
list_of_one (y ∷ z ∷ xs) x h k e = absurd (omega arith)

head_of : Rule → List Rule → Rule
head_of d [] = d
head_of d (r ∷ rs) = r

head_same : (a b : Rule) → a ∷ [] ≡ b ∷ [] → a ≡ b
unfolding head_of
head_same a b e = ap (head_of a) e

by_found : (rules : List Rule) (root : List ℕ) (rule : Rule) (o : Option ℕ) → rules ≡ rule ∷ [] → Defines rule root → IsFound (IsLoneNumber rule.body) o → IsFound (IsThin rules root) o
by_found rules root rule (Some n) e d f = record { rule = rule; alone = e; defines = d; number = f }
by_found rules root rule None e d f = λ n t.
    let both : rule ∷ [] ≡ t.rule ∷ [] = sym e ∙ t.alone in
    let same : t.rule ≡ rule = sym (head_same rule t.rule both) in
    f n (subst (λ (r : Rule). IsLoneNumber r.body n) same t.number)

pub lone_rule : (root : List ℕ) (rules : List Rule) (rule : Rule) (o : Option ℕ) → 1 ≤ length rules → length rules < 2 → rule ≡ get_or rules 0 rule → Defines rule root → IsFound (IsLoneNumber rule.body) o → IsFound (IsThin rules root) o
lone_rule root rules rule o h k i d f = by_found rules root rule o (list_of_one rules rule h k i) d f

-- an entry is one number
one_number : (entry : Entry) (m n : ℕ) → IsLoneNumber entry m → IsLoneNumber entry n → m ≡ n
one_number entry m n a b =
    let choices : a.choice ∷ [] ≡ b.choice ∷ [] = sym a.alone ∙ b.alone in
    let choice : a.choice ≡ b.choice = cc in
    let form = subst (λ (c : Type1). out-Form (out-Type2 (out-Type1 c).left).form ≡ forms.Form::Lit a.literal) choice a.is in
    let literals : forms.Form::Lit a.literal ≡ forms.Form::Lit b.literal = sym form ∙ b.is in
    let literal : a.literal ≡ b.literal = cc in
    let integers : Int (Some (pos m)) ≡ Int (Some (pos n)) = sym a.small.is ∙ (literal ∙ b.small.is) in
    cc

-- rules are one number of the root
pub one_thin : (rules : List Rule) (root : List ℕ) (m n : ℕ) → IsThin rules root m → IsThin rules root n → m ≡ n
one_thin rules root m n a b =
    let both : a.rule ∷ [] ≡ b.rule ∷ [] = sym a.alone ∙ b.alone in
    let same : a.rule ≡ b.rule = head_same a.rule b.rule both in
    one_number b.rule.body m n (subst (λ (r : Rule). IsLoneNumber r.body m) same a.number) b.number
