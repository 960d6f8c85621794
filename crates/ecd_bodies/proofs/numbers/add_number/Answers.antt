use Rattle.std.proofs.Common.{◌≡◌, ℕ, List, [], ◌∷◌, ◌++◌, Some, IsSome, Vec, Global, cond, ap, refl, subst, ◌∙◌}
use Rattle.std.specs.Option.{unwrap_or}
use Rattle.std.specs.Map.{lookup}
use Rattle.std.specs.Str.{bytes_eq}
use Rattle.ecd_bodies.proofs.Adding.{written, inserted, more, at_name}
use Rattle.ecd_bodies.specs.Numbers.{numbers_in}
use Rattle.ecd_bodies.proofs.numbers.add_number.Goals as goal

abbrev bytes : Vec ℕ Global → List ℕ
bytes key = key.items

pub returns-in_ok-push-in-Some : goal.returns-in_ok-push-in-Some
returns-in_ok-push-in-Some c = λ other.
    let name = c.args.name.now in
    let entries = c.args.map.now.entries in
    let w = c.push.new.self in
    let found : Some c.in-Some.numbers.now ≡ lookup (at_name bytes name) entries = c.in-Some.ensures.value in
    let there : IsSome (lookup (at_name bytes name) entries) = subst IsSome found refl in
    let one : w ≡ numbers_in entries name ++ c.args.number ∷ [] = c.in_ok-push-in-Some.ensures.ok ∙ ap (λ o. unwrap_or o [] ++ c.args.number ∷ []) found in
    ap (λ es. numbers_in es other) (c.get_mut.follows.holds w).0 ∙ (written bytes name other w entries there ∙ more bytes name other w c.args.number entries one)

pub returns-in_ok-insert-in-None : goal.returns-in_ok-insert-in-None
returns-in_ok-insert-in-None c = λ other.
    let name = c.args.name.now in
    let entries = c.args.map.now.entries in
    let w = c.push-in-None.new.self in
    let key = c.in_ok-from_slice-in-None.field-0 in
    let same : bytes key ≡ name = c.in_ok-from_slice-in-None.ensures.items in
    let none = c.in-None.ensures.value in
    let one : w ≡ numbers_in entries name ++ c.args.number ∷ [] = c.in_ok-push-in-None.ensures.ok ∙ (ap (λ l. l ++ c.args.number ∷ []) c.new-numbers.ensures ∙ ap (λ o. unwrap_or o [] ++ c.args.number ∷ []) none) in
    let put = inserted bytes key other w c.get_mut.follows.lender-at-none.entries in
    let at_it : cond (bytes_eq (bytes key) other) w (numbers_in c.get_mut.follows.lender-at-none.entries other) ≡ cond (bytes_eq name other) w (numbers_in entries other) =
    ap (λ (x : List ℕ). cond (bytes_eq x other) w (numbers_in c.get_mut.follows.lender-at-none.entries other)) same ∙ ap (λ m. cond (bytes_eq name other) w (numbers_in m.entries other)) c.get_mut.follows.holds-at-none in
    ap (λ es. numbers_in es other) c.in_ok-insert-in-None.ensures.entries ∙ (put ∙ (at_it ∙ more bytes name other w c.args.number entries one))
