-- What the function that reads an item of a depth answers, over those of the level below.
use Rattle.std.proofs.Common.{◌≡◌, ℕ, suc, ◌+◌, ◌-◌, ◌*◌, ◌/◌, ◌<◌, ◌≤◌, List, [], ◌∷◌, ◌++◌, take, drop, get_or, Option, Some, None, Result, Ok, Err, Bool, true, false, refl, ap, sym, subst, ◌∙◌, arith}
use Rattle.std.specs.Prelude.{codes, nat_eq, nat_lt, ◌≢◌}
use Rattle.std.specs.Str.{is_utf8}
use Rattle.std.proofs.lemmas.Bool.{eqb-true, eqb-false, ltb-true, ltb-false}
use Rattle.std.proofs.lemmas.Bool.Decides.{nat_tests}
use Rattle.std.proofs.lemmas.List.{drop-drop}
use denote.Hole.Carrier.{hidden}
use Rattle.ecd_cast.specs.declared.tree.Expr.TheBlock as exprs
use Rattle.ecd_cast.specs.declared.tree.Stmt.{Stmt}
use Rattle.ecd_cast.specs.declared.value.Value.TheVariants.{Number as Num, Bytes as Ptr}
use Rattle.ecd_cast.specs.Memory.{Memory}
use Rattle.ecd_cast.specs.Expressions.{Scopes}
use Rattle.ecd_cast.specs.Meaning.{Calls, called}
use Rattle.ecd_calculus.specs.Ends.{Answers}
use Rattle.ecd_calculus.specs.Rules.{Works}
use Rattle.ecd_calculus.proofs.Rules.{return_rule, let_rule, call_rule, if_rule, guard_rule, called_rule, works_within}
use Rattle.ecd_head.specs.declared.HeadFault.{HeadFault}
use Rattle.ecd_head.specs.declared.Head.{Head}
use Rattle.ecd_head.specs.Fault.{head_at}
use Rattle.ecd_head.proofs.Heads.{IsBytes-drop}
use Rattle.ecd_keyorder.specs.declared.Order.{Order}
use Rattle.ecd_item_laws.specs.declared.item.Item.{Item}
use Rattle.ecd_item_laws.specs.Reading.{Reader, item_at, inner_of, layer, behind, parts, many, pairs}
use Rattle.ecd_item_laws.proofs.Again.{item_at-layer}
use Rattle.ecd_item_laws.specs.Parts.{head_from}
use Rattle.ecd_emit.specs.Variables as v
use Rattle.ecd_emit.specs.Windows.{IsBytes, Window, asked}
use Rattle.ecd_fixed_heads.specs.Meanings.{HeadArgument}
use Rattle.ecd_fixed_heads.specs.Extents.{own_end_of, least_behind, string_behind, OwnEnd}
use Rattle.ecd_emit.proofs.Windows.{long, one_byte}
use Rattle.ecd_fixed_heads.proofs.Arguments.{read_there}
use Rattle.ecd_rt.specs.Names.{any_name, items_name, pairs_name}
use Rattle.ecd_rt.specs.Trees.{any_front, any_behind, any_end}
use Rattle.ecd_rt.specs.Meanings.{text_place, TextEnd, paid_by}
use Rattle.ecd_rt.proofs.Budgets.{whole_paid, tag_paid, items_paid, pairs_paid}
use Rattle.ecd_rt.proofs.Readers.{place_of, Advances, item_advances}
use Rattle.ecd_rt.proofs.Following.{Follows, FollowsMany}
use Rattle.ecd_rt.proofs.Behind.{Advance, few_left, few_end, low_end, simple_end, text_ends, parts_end, tag_place, map_place, array_place, no_parts}

-- ---- what is paid for a text

text_paid : (len at size a : ℕ) (b : Bool) → 0 < size → at + size + a ≤ len → a + 1 ≤ paid_by len at (text_place b (at + size + a))
text_paid len at size a true some le = grind (arith, nat_tests)
text_paid len at size a false some le = omega arith

-- what own_end says where it is not 0
own_is : (len at size n : ℕ) (head : Head) → n ≢ 0 → n ≡ own_end_of len at (Ok (head, size)) → (n ≡ at + size + string_behind head) × (least_behind head ≤ len - (at + size))
own_is len at size n head ne e = grind (arith, nat_tests, e, ne)

text_string : (head : Head) → head.major ≡ 3 → (string_behind head ≡ head.arg) × (least_behind head ≡ head.arg)
text_string head e = rw e (refl, refl)

no_string : (head : Head) → 3 < head.major → string_behind head ≡ 0
no_string head lt = grind (arith, nat_tests, lt)

-- an item inside another pays less
part_paid : (len at from T : ℕ) → at < from → from ≤ len → 0 < paid_by len at T → paid_by len from T + 1 ≤ paid_by len at T
part_paid len at from T lt le some = grind (arith, nat_tests, some)

module _ (order : Order) (calls : Calls) (block offset len at : ℕ) (m : Memory) (bytes : List ℕ) (w : Window m block offset len bytes) (le : at ≤ len)
    (own : OwnEnd (calls (codes "own_end"))) (texts : TextEnd (calls (codes "text_end"))) (arguments : HeadArgument (calls (codes "head_argument"))) where
  abbrev begun : Scopes
  begun = ((v.buf, Ptr block offset) ∷ (v.len, Num len) ∷ (v.at, Num at) ∷ []) ∷ []

  abbrev scopes : (major end : ℕ) → Scopes
  scopes major end = ((v.major, Num major) ∷ (v.end, Num end) ∷ (v.buf, Ptr block offset) ∷ (v.len, Num len) ∷ (v.at, Num at) ∷ []) ∷ []

  module _ (inner : Option (Reader Item)) (ahead : Advance inner) (T most : ℕ) (is_T : place_of (layer order inner at (drop at bytes)) ≡ T) (paid : 162 * paid_by len at T ≤ most) (some_paid : 0 < paid_by len at T) (rest : List Stmt) where
    abbrev Answer : ℕ → Type 0
    Answer n = n ≡ T

    abbrev left : ℕ
    left = most - 106

    no_head : (fault : HeadFault) → head_at (drop at bytes) ≡ Err fault → T ≡ 0
    unfolding layer
    no_head fault h = sym is_T ∙ rw h refl

    is_behind : (head : Head) (size : ℕ) → head_at (drop at bytes) ≡ Ok (head, size) → T ≡ place_of (behind order inner at head (at + size) (drop (at + size) bytes))
    unfolding layer
    is_behind head size h =
        let first : place_of (layer order inner at (drop at bytes)) ≡ place_of (behind order inner at head (at + size) (drop size (drop at bytes))) = rw h refl in
        sym is_T ∙ (first ∙ ap (λ (l : List ℕ). place_of (behind order inner at head (at + size) l)) (drop-drop size at bytes))

    -- what the statements behind may know
    abbrev Onward : Type 0
    Onward = (head : Head) (size major : ℕ) → head_at (drop at bytes) ≡ Ok (head, size) → major ≡ head.major → 3 < major → major < 7 → 0 < size → at + size ≤ len → T ≡ place_of (behind order inner at head (at + size) (drop (at + size) bytes)) →
        Works calls m rest (scopes major (at + size)) Answer left

    front_none : (fault : HeadFault) → head_at (drop at bytes) ≡ Err fault → Works calls m (any_front ++ rest) begun Answer most
    unfolding exprs.shape-the_row-Expr-0 exprs.hidden-the_row-Expr-0 hidden
    front_none fault h =
        let none = no_head fault h in
        works_within 100 most (omega arith) (
        call_rule {c = 97} {k = 2} (Ptr block offset ∷ Num len ∷ Num at ∷ []) (λ n. n ≡ own_end_of len at (head_at (drop at bytes))) (record { hands = λ p f. refl }) (own.answers block offset len at m bytes w le) (λ n en.
        guard_rule {k = 0} (nat_eq n 0) 0 (record { tells = refl }) (record { is = refl }) (λ b. sym none) (λ b. absurd (eqb-false n 0 b (en ∙ ap (own_end_of len at) h)))))

    module _ (head : Head) (size : ℕ) (h : head_at (drop at bytes) ≡ Ok (head, size)) (go : Onward) where
      abbrev M : ℕ
      M = get_or bytes at 0 / 32

      abbrev from : ℕ
      from = at + size

      text_case : (n : ℕ) → n ≡ from + head.arg → n ≤ len → head.major ≡ 3 → 0 < size → T ≡ text_place (is_utf8 (take head.arg (drop from bytes))) n →
          Answers (calls (codes "text_end") (Ptr block offset ∷ Num at ∷ Num n ∷ []) m) Answer (27 * (head.arg + 1) + 27) × (suc (27 * (head.arg + 1) + 27 + 1) ≤ left)
      text_case n en fits em some e =
          let b = is_utf8 (take head.arg (drop from bytes)) in
          let a = texts.answers block offset len at size n m bytes head w h en fits in
          let enough = text_paid len at size head.arg b some (omega (arith, en, fits)) in
          let same : paid_by len at (text_place b (at + size + head.arg)) ≡ paid_by len at T = ap (paid_by len at) (ap (text_place b) (sym en) ∙ sym e) in
          (record { answer = a.answer; does = a.does; has = a.has ∙ sym e }, omega (arith, enough, same))

      front_some : Works calls m (any_front ++ rest) begun Answer most
      unfolding exprs.shape-the_row-Expr-0 exprs.hidden-the_row-Expr-0 hidden
      front_some =
          let o = read_there block offset len at m bytes w head size h in
          let byte : get_or bytes at 0 < 256 = w.each at in
          let some : 0 < size = omega (arith, o.0, o.3) in
          let room : from ≤ len = omega (arith, o.1, o.3) in
          let here : at < len = omega arith in
          let is_major : M ≡ head.major = sym (ap (λ (x : Head). x.major) o.2) in
          let is = is_behind head size h in
          works_within (suc (97 + suc (suc (suc (suc (suc (suc (suc (suc left))))))))) most (omega arith) (
          call_rule {c = 97} {k = suc (suc (suc (suc (suc (suc (suc (suc left)))))))} (Ptr block offset ∷ Num len ∷ Num at ∷ []) (λ n. n ≡ own_end_of len at (head_at (drop at bytes))) (record { hands = λ p f. refl }) (own.answers block offset len at m bytes w le) (λ n en.
          let is_own : n ≡ own_end_of len at (Ok (head, size)) = en ∙ ap (own_end_of len at) h in
          guard_rule {k = suc (suc (suc (suc (suc (suc left)))))} (nat_eq n 0) 0 (record { tells = refl }) (record { is = refl })
          (λ b. sym (is ∙ few_end order inner ahead at from len bytes w.each (long w) room head (few_left len at size head some (sym is_own ∙ eqb-true n 0 b)))) (λ b1.
          let found = own_is len at size n head (eqb-false n 0 b1) is_own in
          let_rule {n = M} {k = suc (suc (suc (suc (suc left))))} (record { is = rw (w.there, one_byte w at here) refl }) (
          guard_rule {k = suc (suc (suc left))} (nat_lt M 3) n (record { tells = refl }) (record { is = refl })
          (λ b. found.0 ∙ (low_end order inner ahead at from len bytes w.each (long w) room head (omega (arith, ltb-true M 3 b, is_major)) found.1 ∙ sym is)) (λ b2.
          guard_rule {k = suc left} (nat_lt 6 M) n (record { tells = refl }) (record { is = refl })
          (λ b.
          let seven : head.major ≡ 7 = omega (arith, ltb-true 6 M b, byte, is_major) in
          let whole : n ≡ from = omega (arith, found.0, no_string head (omega (arith, seven))) in
          whole ∙ (simple_end order inner ahead at from len bytes w.each (long w) room head.arg ∙ (ap (λ (x : ℕ). place_of (behind order inner at (head_from x head.arg) from (drop from bytes))) (sym seven) ∙ sym is))) (λ b3.
          if_rule {k = left} (nat_eq M 3) (record { tells = refl })
          (λ b.
          let three : head.major ≡ 3 = sym is_major ∙ eqb-true M 3 b in
          let string = text_string head three in
          let whole : n ≡ from + head.arg = omega (arith, found.0, string.0) in
          let room_2 : head.arg ≤ len - from = omega (arith, found.1, string.1) in
          let text : T ≡ text_place (is_utf8 (take head.arg (drop from bytes))) n =
          is ∙ (ap (λ (x : ℕ). place_of (behind order inner at (head_from x head.arg) from (drop from bytes))) three ∙ (sym (text_ends order inner ahead at from len bytes w.each (long w) room head.arg room_2) ∙ ap (text_place (is_utf8 (take head.arg (drop from bytes)))) (sym whole))) in
          let t = text_case n whole (omega (arith, whole, room, room_2)) three some text in
          works_within (suc (27 * (head.arg + 1) + 27 + 1)) left t.1 (
          call_rule {c = 27 * (head.arg + 1) + 27} {k = 1} (Ptr block offset ∷ Num at ∷ Num n ∷ []) Answer (record { hands = λ p f. refl }) t.0 (λ x ex. return_rule {n = x} (record { is = refl }) ex))) (λ b4.
          let high : 3 < M = omega (arith, ltb-false M 3 b2, eqb-false M 3 b4) in
          let low : M < 7 = omega (arith, ltb-false 6 M b3) in
          let whole : n ≡ from = omega (arith, found.0, no_string head (omega (arith, high, is_major))) in
          subst (λ (x : ℕ). Works calls m rest (scopes M x) Answer left) (sym whole) (go head size M h is_major high low some room is))))))))

    front : (r : Result (Head × ℕ) HeadFault) → head_at (drop at bytes) ≡ r → Onward → Works calls m (any_front ++ rest) begun Answer most
    front (Err fault) h go = front_none fault h
    front (Ok x) h go = front_some x.0 x.1 h go

  -- ---- depth 0

  base : (T most : ℕ) → place_of (layer order None at (drop at bytes)) ≡ T → 162 * paid_by len at T ≤ most → 0 < paid_by len at T → Works calls m (any_front ++ any_behind 0) begun (λ n. n ≡ T) most
  unfolding exprs.shape-the_row-Expr-0 exprs.hidden-the_row-Expr-0 hidden
  base T most is paid some =
      front None tt T most is paid some (any_behind 0) (head_at (drop at bytes)) refl
      (λ head size major h em high low pos room e.
      let none : T ≡ 0 = e ∙ (parts_end order None tt at (at + size) len bytes w.each (long w) room head (omega (arith, em, high)) (omega (arith, em, low)) ∙ no_parts order at (at + size) head (drop (at + size) bytes)) in
      works_within 1 (most - 106) (omega arith) (return_rule {n = 0} (record { is = refl }) (sym none)))

  -- ---- one level deeper

  module _ (read : Reader Item) (ahead : Advances read) (each below : ℕ) (any : Follows read each (calls (any_name below))) (items : FollowsMany (many read) (each + 4) 3 (calls (items_name below)))
      (all_pairs : FollowsMany (λ n. pairs order read None n) (each + 27) 5 (calls (pairs_name below)))
      (T most : ℕ) (is : place_of (layer order (Some read) at (drop at bytes)) ≡ T) (paid : (each + 162) * paid_by len at T ≤ most) (some : 0 < paid_by len at T) where
    abbrev Told : ℕ → Type 0
    Told n = n ≡ T

    module _ (head : Head) (size major : ℕ) (h : head_at (drop at bytes) ≡ Ok (head, size)) (em : major ≡ head.major) (high : 3 < major) (low : major < 7) (pos : 0 < size) (room : at + size ≤ len)
        (e : T ≡ place_of (behind order (Some read) at head (at + size) (drop (at + size) bytes))) where
      abbrev start : ℕ
      start = at + size

      abbrev spent : ℕ
      spent = paid_by len start T

      less : spent + 1 ≤ paid_by len at T
      less = part_paid len at start T (omega arith) room some

      of_parts : (x : ℕ) → head.major ≡ x → T ≡ place_of (parts order (Some read) at (head_from x head.arg) start (drop start bytes))
      of_parts x q = e ∙ (parts_end order (Some read) ahead at start len bytes w.each (long w) room head (omega (arith, em, high)) (omega (arith, em, low)) ∙ ap (λ (y : ℕ). place_of (parts order (Some read) at (head_from y head.arg) start (drop start bytes))) q)

      tag_answers : head.major ≡ 6 → Answers (calls (any_name below) (Ptr block offset ∷ Num len ∷ Num start ∷ []) m) Told (each * spent)
      tag_answers q =
          let same : T ≡ place_of (read start (drop start bytes)) = of_parts 6 q ∙ tag_place order read at start head.arg (drop start bytes) in
          subst (λ (x : ℕ). Answers (calls (any_name below) (Ptr block offset ∷ Num len ∷ Num start ∷ []) m) (λ n. n ≡ x) (each * paid_by len start x)) (sym same) (any.answers block offset len start m bytes w room)

      map_answers : head.major ≡ 5 → Answers (calls (pairs_name below) (Ptr block offset ∷ Num len ∷ Num start ∷ Num head.arg ∷ []) m) Told ((each + 27) * spent + 5)
      map_answers q =
          let same : T ≡ place_of (pairs order read None head.arg start (drop start bytes)) = of_parts 5 q ∙ map_place order read at start head.arg (drop start bytes) in
          subst (λ (x : ℕ). Answers (calls (pairs_name below) (Ptr block offset ∷ Num len ∷ Num start ∷ Num head.arg ∷ []) m) (λ n. n ≡ x) ((each + 27) * paid_by len start x + 5)) (sym same) (all_pairs.answers block offset len start head.arg m bytes w room)

      array_answers : head.major ≡ 4 → Answers (calls (items_name below) (Ptr block offset ∷ Num len ∷ Num start ∷ Num head.arg ∷ []) m) Told ((each + 4) * spent + 3)
      array_answers q =
          let same : T ≡ place_of (many read head.arg start (drop start bytes)) = of_parts 4 q ∙ array_place order read at start head.arg (drop start bytes) in
          subst (λ (x : ℕ). Answers (calls (items_name below) (Ptr block offset ∷ Num len ∷ Num start ∷ Num head.arg ∷ []) m) (λ n. n ≡ x) ((each + 4) * paid_by len start x + 3)) (sym same) (items.answers block offset len start head.arg m bytes w room)

      deeper : Works calls m (any_behind (suc below)) (scopes major start) Told (most - 106)
      unfolding exprs.shape-the_row-Expr-0 exprs.hidden-the_row-Expr-0 hidden
      deeper =
          let whole : 162 * paid_by len at T ≤ most = whole_paid each (paid_by len at T) most paid in
          works_within (suc (most - 107)) (most - 106) (omega arith) (
          if_rule {k = most - 107} (nat_eq major 6) (record { tells = refl })
          (λ b.
          works_within (suc (each * spent + 1)) (most - 107) (tag_paid each spent (paid_by len at T) most less paid) (
          call_rule {c = each * spent} {k = 1} (Ptr block offset ∷ Num len ∷ Num start ∷ []) Told (record { hands = λ p f. refl }) (tag_answers (sym em ∙ eqb-true major 6 b)) (λ x ex. return_rule {n = x} (record { is = refl }) ex))) (λ b1.
          works_within (suc (22 + suc (most - 131))) (most - 107) (omega arith) (
          call_rule {c = 22} {k = suc (most - 131)} (Ptr block offset ∷ Num at ∷ []) (λ a. a ≡ head.arg) (record { hands = λ p f. refl }) (arguments.answers block offset len at size m bytes head w h) (λ a ea.
          if_rule {k = most - 131} (nat_eq major 5) (record { tells = refl })
          (λ b.
          works_within (suc ((each + 27) * spent + 5 + 1)) (most - 131) (pairs_paid each spent (paid_by len at T) most less paid) (
          call_rule {c = (each + 27) * spent + 5} {k = 1} (Ptr block offset ∷ Num len ∷ Num start ∷ Num a ∷ []) Told (record { hands = λ p f. refl })
          (subst (λ (y : ℕ). Answers (calls (pairs_name below) (Ptr block offset ∷ Num len ∷ Num start ∷ Num y ∷ []) m) Told ((each + 27) * spent + 5)) (sym ea) (map_answers (sym em ∙ eqb-true major 5 b)))
          (λ x ex. return_rule {n = x} (record { is = refl }) ex))) (λ b2.
          let four : head.major ≡ 4 = omega (arith, em, high, low, eqb-false major 6 b1, eqb-false major 5 b2) in
          works_within (suc ((each + 4) * spent + 3 + 1)) (most - 131) (items_paid each spent (paid_by len at T) most less paid) (
          call_rule {c = (each + 4) * spent + 3} {k = 1} (Ptr block offset ∷ Num len ∷ Num start ∷ Num a ∷ []) Told (record { hands = λ p f. refl })
          (subst (λ (y : ℕ). Answers (calls (items_name below) (Ptr block offset ∷ Num len ∷ Num start ∷ Num y ∷ []) m) Told ((each + 4) * spent + 3)) (sym ea) (array_answers four))
          (λ x ex. return_rule {n = x} (record { is = refl }) ex)))))))

    level : Works calls m (any_front ++ any_behind (suc below)) begun Told most
    level = front (Some read) ahead T most is (whole_paid each (paid_by len at T) most paid) some (any_behind (suc below)) (head_at (drop at bytes)) refl deeper

-- ---- the steps of a level

-- where an item is found it has a byte
some_paid : (order : Order) (d len at : ℕ) (bytes : List ℕ) → IsBytes bytes → 0 < paid_by len at (place_of (item_at order d at (drop at bytes)))
some_paid order d len at bytes fits = by (item_at order d at (drop at bytes)) refl
  where
    by : (r : _) → item_at order d at (drop at bytes) ≡ r → 0 < paid_by len at (place_of r)
    by (Err e) h = omega arith
    by (Ok x) h = let a = item_advances order d at (drop at bytes) x (IsBytes-drop at bytes fits) h in more x.at a.some
      where
        more : (n : ℕ) → at < n → 0 < paid_by len at n
        more n lt = grind (arith, nat_tests)

module _ (order : Order) (calls : Calls) (k : ℕ) (own : OwnEnd (calls (codes "own_end"))) (texts : TextEnd (calls (codes "text_end"))) (arguments : HeadArgument (calls (codes "head_argument"))) where
  pub leaf_follows : Follows (item_at order 0) (162 * (0 + 1)) (called calls k (any_end 0))
  unfolding any_end inner_of
  leaf_follows = record {
    answers = λ block offset len at m bytes w le.
        let T = place_of (item_at order 0 at (drop at bytes)) in
        let is : place_of (layer order None at (drop at bytes)) ≡ T = ap place_of (sym (item_at-layer order 0 at (drop at bytes))) in
        called_rule calls m k (any_end 0) (asked block offset len at) (λ n. n ≡ T) (162 * (0 + 1) * paid_by len at T)
        (base order calls block offset len at m bytes w le own texts arguments T (162 * (0 + 1) * paid_by len at T) is (omega arith) (some_paid order 0 len at bytes w.each));
  }

  pub level_follows : (below : ℕ) → Follows (item_at order below) (162 * (below + 1)) (calls (any_name below)) → FollowsMany (many (item_at order below)) (162 * (below + 1) + 4) 3 (calls (items_name below)) →
      FollowsMany (λ n. pairs order (item_at order below) None n) (162 * (below + 1) + 27) 5 (calls (pairs_name below)) → Follows (item_at order (suc below)) (162 * (suc below + 1)) (called calls k (any_end (suc below)))
  unfolding any_end inner_of
  level_follows below any items all_pairs = record {
    answers = λ block offset len at m bytes w le.
        let T = place_of (item_at order (suc below) at (drop at bytes)) in
        let is : place_of (layer order (Some (item_at order below)) at (drop at bytes)) ≡ T = ap place_of (sym (item_at-layer order (suc below) at (drop at bytes))) in
        let sum : 162 * (suc below + 1) ≡ 162 * (below + 1) + 162 = omega arith in
        let paid : (162 * (below + 1) + 162) * paid_by len at T ≤ 162 * (suc below + 1) * paid_by len at T = rw sum (omega arith) in
        called_rule calls m k (any_end (suc below)) (asked block offset len at) (λ n. n ≡ T) (162 * (suc below + 1) * paid_by len at T)
        (level order calls block offset len at m bytes w le own texts arguments (item_at order below) (item_advances order below) (162 * (below + 1)) below any items all_pairs T (162 * (suc below + 1) * paid_by len at T) is paid (some_paid order (suc below) len at bytes w.each));
  }
