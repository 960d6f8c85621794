-- What is left to do, and what a search that has nothing open has found.
use Rattle.std.proofs.Common.{◌≡◌, ℕ, zero, suc, ◌+◌, ◌<◌, ◌≤◌, List, [], ◌∷◌, ◌++◌, length, set, take, arith, refl, sym, ◌∙◌, ap, subst, inl, inr}
use Rattle.std.proofs.lemmas.Bool.{cases_lt, cases_eq}
use Rattle.std.proofs.lemmas.List.{get_or_past, get_or-set_same, get_or-set_other, length_push, take_at, take-take, get_or_push, get_or-take}
use Rattle.ecd_graph.specs.declared.edge.Edge.{Edge}
use Rattle.ecd_graph.specs.declared.search.Mark.{Mark}
use Rattle.ecd_graph.specs.declared.search.Mark.TheVariants.{Unseen, Open, Done}
use Rattle.ecd_graph.specs.Graphs.{Walks, AreAmong, NumbersComponents, AreInOrder}
use Rattle.ecd_graph.specs.Searches.{mark, slot, total, IsHeld, IsSound, Stays, Numbers, IsComplete, AreNumbersOf}
use Rattle.ecd_graph.specs.declared.search.Search.{Search}
use Rattle.ecd_graph.proofs.Reaching.{open_unseen, done_unseen, one_number}

pub total_set : (xs : List ℕ) (i y : ℕ) → i < length xs → total (set xs i y) + slot xs i ≡ total xs + y
total_set [] i y lt = absurd (omega (arith, lt))
total_set (x ∷ xs) zero y lt = omega arith
total_set (x ∷ xs) (suc i) y lt =
    let rest : total (set xs i y) + slot xs i ≡ total xs + y = total_set xs i y (omega (arith, lt)) in
    omega (arith, rest)

-- an open node is a node
pub open_within : (marks : List Mark) (v i : ℕ) → mark marks v ≡ Open i → v < length marks
open_within marks v i h = elim (cases_lt v (length marks)) [
  | inl within ↦ within
  | inr past ↦ absurd (open_unseen i (sym h ∙ get_or_past marks v Unseen past))
]

pub sound_stays : (old new : Search) → IsSound old → Stays old new → IsSound new
sound_stays old new s t = record {
  among = subst (λ (n : ℕ). AreAmong n new.edges.now) (sym t.nodes) (subst (λ (es : List Edge). AreAmong (length old.marks.items) es) (sym t.edges) s.among);
  previous = rw (t.edges, t.previous) s.previous;
  each = ap length t.previous ∙ (s.each ∙ ap length (sym t.edges));
}

-- ---- open nodes are numbered from the last on

module _ (marks : List Mark) (pending : List ℕ) (stands : (v i : ℕ) → mark marks v ≡ Open i → (i < length pending) × (slot pending i ≡ v)) where
  pub none_numbered : (number : ℕ) → Numbers marks marks (length pending) number
  none_numbered number = record {
    done = λ w j h le. let there = stands w j h in absurd (omega (arith, there.0, le));
    kept = λ w before. refl;
  }

  pub one_numbered : (new : List Mark) (k node number : ℕ) → length new ≡ length marks → mark marks node ≡ Open k → Numbers marks new (suc k) number → Numbers marks (set new node (Done number)) k number
  one_numbered new k node number nodes is n =
      let within : node < length marks = open_within marks node k is in
      record {
        done = λ w j h le. elim (cases_eq w node) [
          | inl it ↦ ap (mark (set new node (Done number))) it ∙ get_or-set_same new node (Done number) Unseen (omega (arith, within, nodes))
          | inr ne ↦ get_or-set_other new node w (Done number) Unseen ne ∙ n.done w j h (elim (cases_lt k j) [
            | inl later ↦ later
            | inr not_later ↦
                let same : j ≡ k = omega (arith, not_later, le) in
                let at_w = stands w j h in
                let at_node = stands node k is in
                absurd (ne (sym at_w.1 ∙ (ap (slot pending) same ∙ at_node.1)))
          ])
        ];
        kept = λ w before.
            let ne : w ≡ node → ⊥ = λ it. let less : k < k = before k (ap (mark marks) it ∙ is) in omega (arith, less) in
            get_or-set_other new node w (Done number) Unseen ne ∙ n.kept w (λ j h. let less : j < k = before j h in omega (arith, less));
      }

-- the front of a list, without its last
pub shorter_front : (whole front less : List ℕ) (x : ℕ) → front ≡ less ++ x ∷ [] → front ≡ take (length front) whole → (less ≡ take (length less) whole) × (slot whole (length less) ≡ x)
shorter_front whole front less x split is =
    let long : length front ≡ length less + 1 = ap length split ∙ length_push less x in
    let at_front : take (length less) front ≡ less = ap (take (length less)) split ∙ take_at less (x ∷ []) (length less) refl in
    let again : take (length less) front ≡ take (length less) whole = ap (take (length less)) is ∙ take-take (length less) (length front) whole (omega (arith, long)) in
    let last : slot front (length less) ≡ x = ap (λ (l : List ℕ). slot l (length less)) split ∙ get_or_push less x 0 (length less) refl in
    let there : slot front (length less) ≡ slot whole (length less) = ap (λ (l : List ℕ). slot l (length less)) is ∙ get_or-take (length front) whole (length less) 0 (omega (arith, long)) in
    (sym at_front ∙ again, sym there ∙ last)

pub stays_on : (a b c : Search) → Stays a b → Stays b c → Stays a c
stays_on a b c first second = record {
  edges = second.edges ∙ first.edges;
  previous = second.previous ∙ first.previous;
  nodes = second.nodes ∙ first.nodes;
  seen = λ v h. first.seen v (second.seen v h);
}

-- ---- a search with nothing on its path

pub complete_by : (s : Search) → IsHeld s → length s.path.items ≡ 0 → ((v : ℕ) → v < length s.marks.items → mark s.marks.items v ≡ Unseen → ⊥) → IsComplete s
complete_by s h idle seen = record {
  every = λ v lt. by v lt (mark s.marks.items v) refl;
  closed = h.closed;
  together = h.together;
}
  where
    none_open : (v i : ℕ) → mark s.marks.items v ≡ Open i → ⊥
    none_open v i is =
        let there = h.stands v i is in
        let lt = there.0 in
        let begins = h.begins (omega (arith, lt)) in
        let root = h.rooted 0 begins.0 in
        let on = root.1 in
        omega (arith, on, idle)

    by : (v : ℕ) → v < length s.marks.items → (m : Mark) → mark s.marks.items v ≡ m → (c : ℕ) × (mark s.marks.items v ≡ Done c)
    by v lt Unseen is = absurd (seen v lt is)
    by v lt (Open i) is = absurd (none_open v i is)
    by v lt (Done c) is = (c, is)

-- ---- the numbers of nodes that are done

module _ (s : Search) (numbers : List ℕ) (done : IsComplete s) (are : AreNumbersOf s.marks.items numbers) where
  done_within : (v c : ℕ) → mark s.marks.items v ≡ Done c → v < length s.marks.items
  done_within v c h = elim (cases_lt v (length s.marks.items)) [
    | inl within ↦ within
    | inr past ↦ absurd (done_unseen c (sym h ∙ get_or_past s.marks.items v Unseen past))
  ]

  along : (n a b : ℕ) → a < length s.marks.items → Walks s.edges.now n a b → slot numbers b ≤ slot numbers a
  along zero a b lt w =
      let same : slot numbers a ≡ slot numbers b = ap (slot numbers) w in
      omega (arith, same)
  along (suc n) a b lt w =
      let next = done.closed w.1.0 (slot numbers a) (record { from = a; to = w.0 }) w.1.1 (are.is a lt) in
      let within : w.0 < length s.marks.items = done_within w.0 next.0 next.1 in
      let same : next.0 ≡ slot numbers w.0 = one_number next.0 (slot numbers w.0) (sym next.1 ∙ are.is w.0 within) in
      let rest : slot numbers b ≤ slot numbers w.0 = along n w.0 b within w.2 in
      let less = next.2 in
      omega (arith, same, rest, less)

  pub are_in_order : AreInOrder (length s.marks.items) s.edges.now numbers
  are_in_order a b a_lt b_lt r = along r.steps a b a_lt r.walk

  pub numbers_components : NumbersComponents (length s.marks.items) s.edges.now numbers
  numbers_components a b a_lt b_lt = (
    (λ same.
        let at_a : mark s.marks.items a ≡ Done (slot numbers b) = are.is a a_lt ∙ ap Done same in
        let at_b : mark s.marks.items b ≡ Done (slot numbers b) = are.is b b_lt in
        (done.together a b (slot numbers b) at_a at_b, done.together b a (slot numbers b) at_b at_a)),
    (λ both.
        let down : slot numbers b ≤ slot numbers a = are_in_order a b a_lt b_lt both.0 in
        let up : slot numbers a ≤ slot numbers b = are_in_order b a b_lt a_lt both.1 in
        omega (arith, down, up)),
  )
