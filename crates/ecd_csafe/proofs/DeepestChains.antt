-- A chain of calls as heavy as the heaviest, and one as long as the call depth.
use Rattle.std.proofs.Common.{◌≡◌, ℕ, zero, suc, ◌+◌, ◌<◌, List, [], ◌∷◌, length, refl, sym, ap, subst, ◌∙◌, arith, Bool, true, false, ◌⊎◌, inl, inr}
use Rattle.std.specs.Prelude.{max, if◌then◌else◌, ◌||◌, bytes_eq, Some, slice_get}
use Rattle.std.proofs.lemmas.Slice.Eq.{bytes_eq-Decides}
use Rattle.ecd_cast.specs.declared.tree.Source.{Source}
use Rattle.ecd_cast.specs.declared.tree.Source.TheVariants.{Value as FromValue, Call as FromCall}
use Rattle.ecd_cast.specs.declared.tree.Stmt.{Stmt, Row_of-Stmt, end_of-Stmt, more_of-Stmt}
use Rattle.ecd_cast.specs.declared.tree.Stmt.TheVariants.{Number as DeclNumber, Pointer as DeclPointer, Assign, Store, SetCell, If', For', Return}
use Rattle.ecd_cast.specs.declared.tree.Function.{Function}
use Rattle.ecd_cast.specs.declared.tree.CItem.{CItem}
use Rattle.ecd_cast.specs.declared.tree.CItem.TheVariants.{Struct as AStruct, Function as AFunction}
use Rattle.ecd_cast.specs.Memory.{Name}
use Rattle.ecd_cast.specs.Validity.{Chains, source_chain, chain_of, chain_in, block_chain, with_chain, heaviest_from}
use Rattle.ecd_csafe.specs.Deepest.{source_calls, calls, row_calls, block_calls, IsFunction, IsChain, weight_in, chain_weight, ChainOf, HasHeaviestChain, HasDeepestChain}

-- ---- tests

or_left : (a b : Bool) → a ≡ true → (a || b) ≡ true
or_left true b h = refl
or_left false b h = absurd cc

or_right : (a b : Bool) → b ≡ true → (a || b) ≡ true
or_right true b h = refl
or_right false b h = h

max_is : (a b : ℕ) → (max a b ≡ a) ⊎ (max a b ≡ b)
max_is zero b = inr (omega arith)
max_is (suc a) zero = inl (omega arith)
max_is (suc a) (suc b) = elim (max_is a b) [ inl h ↦ inl (omega (arith, h)) | inr h ↦ inr (omega (arith, h)) ]

same_bytes : (xs : List ℕ) → bytes_eq xs xs ≡ true
same_bytes xs = (bytes_eq-Decides xs xs).1 refl

-- ---- the heaviest call of a body

-- a name that is called, whose chain is so long
record Heaviest (chains : Chains) (test : Name → Bool) (n : ℕ) : Type 0 where
  pub name : Name
  pub is_called : test name ≡ true
  pub long : chains name ≡ n

module _ (chains : Chains) where
  from_left : (c d : Name → Bool) (n : ℕ) → Heaviest chains c n → Heaviest chains (λ g. c g || d g) n
  from_left c d n h = record { name = h.name; is_called = or_left (c h.name) (d h.name) h.is_called; long = h.long }

  from_right : (c d : Name → Bool) (n : ℕ) → Heaviest chains d n → Heaviest chains (λ g. c g || d g) n
  from_right c d n h = record { name = h.name; is_called = or_right (c h.name) (d h.name) h.is_called; long = h.long }

  -- the heavier of two parts
  from_either : (c d : Name → Bool) (a b n : ℕ) → max a b ≡ suc n → (a ≡ suc n → Heaviest chains c (suc n)) → (b ≡ suc n → Heaviest chains d (suc n)) → Heaviest chains (λ g. c g || d g) (suc n)
  from_either c d a b n e h k = elim (max_is a b) [ inl l ↦ from_left c d (suc n) (h (sym l ∙ e)) | inr r ↦ from_right c d (suc n) (k (sym r ∙ e)) ]

  source_heaviest : (s : Source) (n : ℕ) → source_chain chains s ≡ suc n → Heaviest chains (source_calls s) (suc n)
  source_heaviest (FromValue e) n h = absurd (omega (arith, h))
  source_heaviest (FromCall g args) n h = record { name = g; is_called = same_bytes g; long = h }

  mutual
    stmt_heaviest : (s : Stmt) (n : ℕ) → chain_of chains s ≡ suc n → Heaviest chains (calls s) (suc n)
    stmt_heaviest (DeclNumber x e) n h = source_heaviest e n h
    stmt_heaviest (DeclPointer x e) n h = absurd (omega (arith, h))
    stmt_heaviest (Assign x e) n h = source_heaviest e n h
    stmt_heaviest (Store x i e) n h = absurd (omega (arith, h))
    stmt_heaviest (SetCell x c e) n h = absurd (omega (arith, h))
    stmt_heaviest (If' t s ys u ns) n h = from_either (row_calls ys) (row_calls ns) (chain_in chains ys) (chain_in chains ns) n h (row_heaviest ys n) (row_heaviest ns n)
    stmt_heaviest (For' x b s body) n h = row_heaviest body n h
    stmt_heaviest (Return e) n h = absurd (omega (arith, h))

    row_heaviest : {k : _} (r : Row_of-Stmt k) (n : ℕ) → chain_in chains r ≡ suc n → Heaviest chains (row_calls r) (suc n)
    row_heaviest end_of-Stmt n h = absurd (omega (arith, h))
    row_heaviest (more_of-Stmt s rest) n h = from_either (calls s) (row_calls rest) (chain_of chains s) (chain_in chains rest) n h (stmt_heaviest s n) (row_heaviest rest n)

  block_heaviest : (ss : List Stmt) (n : ℕ) → block_chain chains ss ≡ suc n → Heaviest chains (block_calls ss) (suc n)
  block_heaviest [] n h = absurd (omega (arith, h))
  block_heaviest (s ∷ rest) n h = from_either (calls s) (block_calls rest) (chain_of chains s) (block_chain chains rest) n h (stmt_heaviest s n) (block_heaviest rest n)

-- ---- chains of the items before a number

module _ (weight : Function → ℕ) (items : List CItem) where
  -- a chain of this weight, whose first has this name and stands before this number
  record Begun (g : Name) (at_ n : ℕ) : Type 0 where
    pub number : ℕ
    pub function : Function
    pub rest : List ℕ
    pub before : number < at_
    pub stands : IsFunction items number function
    pub named : function.name ≡ g
    pub is : IsChain items (number ∷ rest)
    pub weighs : chain_weight weight items (number ∷ rest) ≡ n

  -- the items from a number on are these
  record Stands (at_ : ℕ) (rest : List CItem) : Type 0 where
    pub each : (j : ℕ) (f : Function) → slice_get rest j ≡ Some (AFunction f) → slice_get items (at_ + j) ≡ Some (AFunction f)

  stands_behind : (at_ : ℕ) (i : CItem) (is : List CItem) → Stands at_ (i ∷ is) → Stands (at_ + 1) is
  stands_behind at_ i is h = record {
    each = λ j f e. let same : at_ + suc j ≡ at_ + 1 + j = omega arith in subst (λ (k : ℕ). slice_get items k ≡ Some (AFunction f)) same (h.each (suc j) f e);
  }

  stands_here : (at_ : ℕ) (f : Function) (is : List CItem) → Stands at_ (AFunction f ∷ is) → IsFunction items at_ f
  stands_here at_ f is h = let same : at_ + 0 ≡ at_ = omega arith in subst (λ (k : ℕ). slice_get items k ≡ Some (AFunction f)) same (h.each 0 f refl)

  later : (g : Name) (at_ n : ℕ) → Begun g at_ n → Begun g (at_ + 1) n
  later g at_ n b = record { number = b.number; function = b.function; rest = b.rest; before = let h = b.before in omega (arith, h); stands = b.stands; named = b.named; is = b.is; weighs = b.weighs }

  module _ (chains : Chains) (at_ : ℕ) (known : (g : Name) (n : ℕ) → chains g ≡ suc n → Begun g at_ (suc n)) where
    -- the chain that begins with one more function
    own : (f : Function) → IsFunction items at_ f → (d : ℕ) → block_chain chains f.body ≡ d → Begun f.name (at_ + 1) (weight f + d)
    own f e zero h = record { number = at_; function = f; rest = []; before = omega arith; stands = e; named = refl; is = (f, e); weighs = ap (λ o. weight_in weight o + 0) e }
    own f e (suc d) h =
        let call = block_heaviest chains f.body d h in
        let b = known call.name d call.long in
        let calls_it : block_calls f.body b.function.name ≡ true = subst (λ (x : Name). block_calls f.body x ≡ true) (sym b.named) call.is_called in
        record {
          number = at_;
          function = f;
          rest = b.number ∷ b.rest;
          before = omega arith;
          stands = e;
          named = refl;
          is = (record { caller = f; callee = b.function; stands = e; called = b.stands; before = b.before; by_name = calls_it }, b.is);
          weighs = λ i. weight_in weight (e i) + b.weighs i;
        }

    known_then : (f : Function) → IsFunction items at_ f → (g : Name) (n : ℕ) → with_chain f.name (weight f + block_chain chains f.body) chains g ≡ suc n → Begun g (at_ + 1) (suc n)
    known_then f e g n = by_test (bytes_eq f.name g) refl
      where
        by_test : (b : Bool) → bytes_eq f.name g ≡ b → (if b then weight f + block_chain chains f.body else chains g) ≡ suc n → Begun g (at_ + 1) (suc n)
        by_test true t h =
            let same : f.name ≡ g = (bytes_eq-Decides f.name g).0 t in
            subst (λ (x : Name). Begun x (at_ + 1) (suc n)) same (subst (λ (k : ℕ). Begun f.name (at_ + 1) k) h (own f e (block_chain chains f.body) refl))
        by_test false t h = later g at_ (suc n) (known g n h)

    most_then : (f : Function) (most : ℕ) → IsFunction items at_ f → ChainOf weight items most → ChainOf weight items (max most (weight f + block_chain chains f.body))
    most_then f most e found =
        let b = own f e (block_chain chains f.body) refl in
        elim (max_is most (weight f + block_chain chains f.body)) [
          | inl l ↦ record { chain = found.chain; is = found.is; weighs = found.weighs ∙ sym l }
          | inr r ↦ record { chain = b.number ∷ b.rest; is = b.is; weighs = b.weighs ∙ sym r }
        ]

  from_items : (chains : Chains) (at_ most : ℕ) (rest : List CItem) → Stands at_ rest → ((g : Name) (n : ℕ) → chains g ≡ suc n → Begun g at_ (suc n)) → ChainOf weight items most → ChainOf weight items (heaviest_from weight chains most rest)
  from_items chains at_ most [] h known found = found
  from_items chains at_ most (AStruct s ∷ is) h known found = from_items chains (at_ + 1) most is (stands_behind at_ (AStruct s) is h) (λ g n e. later g at_ (suc n) (known g n e)) found
  from_items chains at_ most (AFunction f ∷ is) h known found =
      let e = stands_here at_ f is h in
      from_items (with_chain f.name (weight f + block_chain chains f.body) chains) (at_ + 1) (max most (weight f + block_chain chains f.body)) is (stands_behind at_ (AFunction f) is h) (known_then chains at_ known f e) (most_then chains at_ known f most e found)

pub heaviest_chain : HasHeaviestChain
heaviest_chain weight items =
    let all : Stands weight items 0 items = record { each = λ j f h. let same : j ≡ 0 + j = omega arith in subst (λ (k : ℕ). slice_get items k ≡ Some (AFunction f)) same h } in
    from_items weight items (λ g. 0) 0 0 items all (λ g n e. absurd (omega (arith, e))) (record { chain = []; is = tt; weighs = refl })

-- where each function weighs 1, a chain weighs as much as it is long
pub weighs_its_length : (items : List CItem) (chain : List ℕ) → IsChain items chain → chain_weight (λ f. 1) items chain ≡ length chain
weighs_its_length items [] c = refl
weighs_its_length items (n ∷ []) c = let one : weight_in (λ f. 1) (slice_get items n) ≡ 1 = ap (weight_in (λ f. 1)) c.1 in omega (arith, one)
weighs_its_length items (n ∷ (k ∷ rest)) c =
    let one : weight_in (λ f. 1) (slice_get items n) ≡ 1 = ap (weight_in (λ f. 1)) c.0.stands in
    let more = weighs_its_length items (k ∷ rest) c.1 in
    omega (arith, one, more)

pub deepest_chain : HasDeepestChain
deepest_chain items =
    let found = heaviest_chain (λ f. 1) items in
    record { chain = found.chain; is = found.is; deep = sym (weighs_its_length items found.chain found.is) ∙ found.weighs }
