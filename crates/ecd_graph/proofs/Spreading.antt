-- A node is reached, and an edge of a reached node is followed.
use Rattle.std.proofs.Common.{◌≡◌, ℕ, zero, suc, ◌+◌, ◌<◌, ◌≤◌, Bool, true, false, List, [], ◌∷◌, ◌++◌, length, get_or, set, arith, refl, sym, ◌∙◌, ap, subst, inl, inr, ◌⊎◌}
use Rattle.std.specs.Prelude.{slice_get, Some}
use Rattle.std.proofs.lemmas.Bool.{cases_lt, cases_eq}
use Rattle.std.proofs.lemmas.Option.{slice_get_within}
use Rattle.std.proofs.lemmas.List.{get_or_past, get_or-set_same, get_or-set_other, length_push}
use Rattle.ecd_graph.specs.declared.edge.Edge.{Edge}
use Rattle.ecd_graph.specs.declared.spread.Spread.{Spread}
use Rattle.ecd_graph.specs.Graphs.{Walks, Reaches, IsMarked, IsReached}
use Rattle.ecd_graph.specs.Chains.{IsLast}
use Rattle.ecd_graph.specs.Searches.{slot, IsOn}
use Rattle.ecd_graph.specs.Spreads.{IsClosedBut, IsSpread, IsLinked, Spreads, unmarked, with_marked}
use Rattle.ecd_graph.proofs.Entering.{slot_front, slot_back}
use Rattle.ecd_graph.proofs.Reaching.{reaches_on, reaches_by}

true_false : true ≡ false → ⊥
true_false h = cc

pub marked_within : (marked : List Bool) (v : ℕ) → IsMarked marked v → v < length marked
marked_within marked v h = elim (cases_lt v (length marked)) [
  | inl within ↦ within
  | inr past ↦ absurd (true_false (sym h ∙ get_or_past marked v false past))
]

pub unmarked_set : (bs : List Bool) (i : ℕ) → i < length bs → get_or bs i false ≡ false → suc (unmarked (set bs i true)) ≡ unmarked bs
unmarked_set [] i lt is = absurd (omega (arith, lt))
unmarked_set (true ∷ bs) zero lt is = absurd (true_false is)
unmarked_set (false ∷ bs) zero lt is = omega arith
unmarked_set (true ∷ bs) (suc i) lt is = unmarked_set bs i (omega (arith, lt)) is
unmarked_set (false ∷ bs) (suc i) lt is = let rest = unmarked_set bs i (omega (arith, lt)) is in omega (arith, rest)

-- a node that is set is marked, and the others are as they were
pub set_stays : (bs : List Bool) (i v : ℕ) → IsMarked bs v → IsMarked (set bs i true) v
set_stays bs i v h = elim (cases_eq v i) [
  | inl it ↦ ap (λ (j : ℕ). get_or (set bs i true) j false) it ∙ get_or-set_same bs i true false (subst (λ (j : ℕ). j < length bs) it (marked_within bs v h))
  | inr ne ↦ get_or-set_other bs i v true false ne ∙ h
]

pub was_set : (bs : List Bool) (i v : ℕ) → IsMarked (set bs i true) v → (v ≡ i) ⊎ IsMarked bs v
was_set bs i v h = elim (cases_eq v i) [
  | inl it ↦ inl it
  | inr ne ↦ inr (sym (get_or-set_other bs i v true false ne) ∙ h)
]

pub waits_more : (bs : List Bool) (pending : List ℕ) (node : ℕ) → node < length bs → ((i : ℕ) → i < length pending → IsMarked bs (slot pending i)) →
    (i : ℕ) → i < length (pending ++ node ∷ []) → IsMarked (set bs node true) (slot (pending ++ node ∷ []) i)
waits_more bs pending node among waits i lt = elim (cases_lt i (length pending)) [
  | inl before ↦ ap (λ (j : ℕ). get_or (set bs node true) j false) (slot_front pending node i before) ∙ set_stays bs node (slot pending i) (waits i before)
  | inr not_before ↦
      let last : length pending ≡ i = omega (arith, not_before, lt, length_push pending node) in
      ap (λ (j : ℕ). get_or (set bs node true) j false) (slot_back pending node i last) ∙ get_or-set_same bs node true false among
]

pub closed_more : (edges : List Edge) (bs : List Bool) (pending : List ℕ) (node v link : ℕ) → IsClosedBut edges bs pending v link → IsClosedBut edges (set bs node true) (pending ++ node ∷ []) v link
closed_more edges bs pending node v link closed e x there from = elim (was_set bs node x.from from) [
  | inl it ↦ inr (inl (length pending, omega (arith, length_push pending node), slot_back pending node (length pending) refl ∙ sym it))
  | inr old ↦ elim (closed e x there old) [
    | inl to ↦ inl (set_stays bs node x.to to)
    | inr rest ↦ elim rest [
      | inl on ↦ inr (inl (on.0, omega (arith, on.1, length_push pending node), slot_front pending node on.0 on.1 ∙ on.2))
      | inr mine ↦ inr (inr mine)
    ]
  ]
]

-- ---- the edges of one node

pub closed_from : (edges : List Edge) (bs : List Bool) (pending : List ℕ) (node upper mid link : ℕ) → IsClosedBut edges bs pending node upper → IsLast edges node mid link →
    ((e : ℕ) (x : Edge) → slice_get edges e ≡ Some x → x.from ≡ node → mid ≤ e → e < upper → IsMarked bs x.to) → IsClosedBut edges bs pending node link
closed_from edges bs pending node upper mid link closed last got e x there from = elim (closed e x there from) [
  | inl to ↦ inl to
  | inr rest ↦ elim rest [
    | inl on ↦ inr (inl on)
    | inr mine ↦ elim (cases_lt e mid) [
      | inl before ↦ inr (inr (mine.0, last.all e (record { edge = x; stands = there; from = mine.0 }) before))
      | inr not_before ↦ inl (got e x there mine.0 not_before mine.1)
    ]
  ]
]

pub reached_over : (edges : List Edge) (marked : List Bool) (node e : ℕ) (x : Edge) → slice_get edges e ≡ Some x → x.from ≡ node → IsReached edges marked node → IsReached edges marked x.to
reached_over edges marked node e x there from r = record {
  from = r.from;
  is_marked = r.is_marked;
  reaches = reaches_on edges r.from node x.to r.reaches (subst (λ (v : ℕ). Reaches edges v x.to) from (reaches_by edges e x there));
}

-- ---- what stays

pub linked_on : (old new : Spread) → IsLinked old → Spreads old new → IsLinked new
linked_on old new k s = record {
  among = rw (s.edges, s.marked) k.among;
  lasts = ap length s.last ∙ (k.lasts ∙ ap length (sym s.marked));
  each = ap length s.previous ∙ (k.each ∙ ap length (sym s.edges));
  last = rw (s.edges, s.marked, s.last) k.last;
  previous = rw (s.edges, s.previous) k.previous;
}

pub spreads_on : (a b c : Spread) → Spreads a b → Spreads b c → Spreads a c
spreads_on a b c first second = record {
  edges = second.edges ∙ first.edges;
  marked = second.marked ∙ first.marked;
  last = second.last ∙ first.last;
  previous = second.previous ∙ first.previous;
  stays = λ v h. second.stays v (first.stays v h);
}

pub spread_closed : (s : Spread) (node upper link : ℕ) → IsSpread s node upper → IsClosedBut s.edges.now s.reached.items s.pending.items node link → IsSpread s node link
spread_closed s node upper link h closed = record { nodes = h.nodes; kept = h.kept; sound = h.sound; waits = h.waits; closed = closed }

-- ---- all nodes that wait

-- the node that waited last is followed next
pub closed_popped : (edges : List Edge) (bs : List Bool) (pending : List ℕ) (node v : ℕ) → IsClosedBut edges bs (pending ++ node ∷ []) v 0 → IsClosedBut edges bs pending node (length edges)
closed_popped edges bs pending node v closed e x there from = elim (closed e x there from) [
  | inl to ↦ inl to
  | inr rest ↦ elim rest [
    | inr mine ↦ absurd (let lt = mine.1 in omega (arith, lt))
    | inl on ↦ elim (cases_lt on.0 (length pending)) [
      | inl before ↦ inr (inl (on.0, before, sym (slot_front pending node on.0 before) ∙ on.2))
      | inr not_before ↦
          let last : length pending ≡ on.0 = let lt = on.1 in omega (arith, not_before, lt, length_push pending node) in
          inr (inr (sym on.2 ∙ slot_back pending node on.0 last, slice_get_within edges e x there))
    ]
  ]
]

pub closed_for_all : (edges : List Edge) (bs : List Bool) (pending : List ℕ) (v w : ℕ) → IsClosedBut edges bs pending v 0 → IsClosedBut edges bs pending w 0
closed_for_all edges bs pending v w closed e x there from = elim (closed e x there from) [
  | inl to ↦ inl to
  | inr rest ↦ elim rest [
    | inl on ↦ inr (inl on)
    | inr mine ↦ absurd (let lt = mine.1 in omega (arith, lt))
  ]
]

-- ---- nothing waits

module _ (edges : List Edge) (bs : List Bool) (pending : List ℕ) (v : ℕ) (closed : IsClosedBut edges bs pending v 0) (none : length pending ≡ 0) where
  led : (e : ℕ) (x : Edge) → slice_get edges e ≡ Some x → IsMarked bs x.from → IsMarked bs x.to
  led e x there from = elim (closed e x there from) [
    | inl to ↦ to
    | inr rest ↦ elim rest [
      | inl on ↦ absurd (let lt = on.1 in omega (arith, lt, none))
      | inr mine ↦ absurd (let lt = mine.1 in omega (arith, lt))
    ]
  ]

  pub along : (n a b : ℕ) → Walks edges n a b → IsMarked bs a → IsMarked bs b
  along zero a b w m = subst (λ (c : ℕ). IsMarked bs c) w m
  along (suc n) a b w m = along n w.0 b w.2 (led w.1.0 (record { from = a; to = w.0 }) w.1.1 m)

-- ---- the marked nodes

pub marked_each : (marked : List Bool) (nodes : List ℕ) (i : ℕ) (b : Bool) → get_or marked i false ≡ b → ((j : ℕ) → j < length nodes → IsMarked marked (slot nodes j)) →
    (j : ℕ) → j < length (with_marked nodes i b) → IsMarked marked (slot (with_marked nodes i b) j)
marked_each marked nodes i false is each j lt = each j lt
marked_each marked nodes i true is each j lt = elim (cases_lt j (length nodes)) [
  | inl before ↦ ap (λ (k : ℕ). get_or marked k false) (slot_front nodes i j before) ∙ each j before
  | inr not_before ↦
      let last : length nodes ≡ j = omega (arith, not_before, lt, length_push nodes i) in
      ap (λ (k : ℕ). get_or marked k false) (slot_back nodes i j last) ∙ is
]

pub marked_all : (marked : List Bool) (nodes : List ℕ) (i : ℕ) (b : Bool) → get_or marked i false ≡ b → ((v : ℕ) → v < i → IsMarked marked v → IsOn nodes v) →
    (v : ℕ) → v < i + 1 → IsMarked marked v → IsOn (with_marked nodes i b) v
marked_all marked nodes i b is all v lt m = elim (cases_lt v i) [
  | inl before ↦ kept b (all v before m)
  | inr not_before ↦
      let it : v ≡ i = omega (arith, not_before, lt) in
      here b it (sym is ∙ (ap (λ (k : ℕ). get_or marked k false) (sym it) ∙ m))
]
  where
    kept : (c : Bool) → IsOn nodes v → IsOn (with_marked nodes i c) v
    kept false on = on
    kept true on = (on.0, let l = on.1 in omega (arith, l, length_push nodes i), slot_front nodes i on.0 on.1 ∙ on.2)

    here : (c : Bool) → v ≡ i → c ≡ true → IsOn (with_marked nodes i c) v
    here false it holds = absurd (true_false (sym holds))
    here true it holds = (length nodes, omega (arith, length_push nodes i), slot_back nodes i (length nodes) refl ∙ sym it)
