-- Expressions of valid code have values of their kinds, or fail for one of the reasons 1 to 5.
use Rattle.std.proofs.Common.{◌≡◌, ℕ, ◌+◌, ◌<◌, List, [], ◌++◌, length, refl, ap, ◌∙◌, arith, Bool, true, false}
use Rattle.std.specs.Prelude.{Option, Some, None, slice_get, nat_lt, nat_le, if◌then◌else◌, ◌&&◌, ◌/◌, ◌^◌, ◌*◌, ◌%◌}
use Rattle.ecd_cast.specs.declared.tree.Op.{Op}
use Rattle.ecd_cast.specs.declared.tree.Op.TheVariants.{Add, Sub, Mul, Shl, Shr, BitAnd, BitOr, Eq, Ne, Lt, Le, Gt, Ge, And, Or}
use Rattle.ecd_cast.specs.declared.tree.Expr.{Expr, Row_of-Expr, end_of-Expr, more_of-Expr}
use Rattle.ecd_cast.specs.declared.tree.Expr.TheVariants.{Number, Var, Cell as CellOf, Load', Binary', Not'}
use Rattle.ecd_cast.specs.declared.tree.StructDecl.{StructDecl}
use Rattle.ecd_cast.specs.Memory.{Name, Memory, Block, Bytes, Cells}
use Rattle.ecd_cast.specs.declared.value.Value.{Value}
use Rattle.ecd_cast.specs.declared.value.Value.TheVariants.{Number as Num, Truth, Bytes as Ptr, Struct as Str}
use Rattle.ecd_cast.specs.Expressions.{Outcome, Gives, Fails, Scopes, lookup, given, with_value, cell, load, byte_in, given_byte, negated, both, either, must_be_truth, binary, applied, on_numbers, moved, value_of, operand}
use Rattle.ecd_cast.specs.Kinds.{Kind, ANumber, ATruth, AReadPointer, AWritePointer, Unknown, AStruct, Known, takes, kind_in, cell_of, or_unknown, member, sum_kind, result_kind, is_summand, operands_fit, kind_of, operand_kind, unless, unless_known, asked_pointer, asked_cell, broken_by, operand_broken}
use Rattle.ecd_cast.specs.Fitting.{BlockKind, is_place, is_place_in, is_output, is_struct}
use Rattle.ecd_cast.proofs.Kept.{front_nil, back_nil}

-- ---- the reasons

abbrev pub IsReason : ℕ → Type 0
IsReason r = (0 < r) × (r < 6)

pub no_rule : (b : Bool) (r : ℕ) → unless b r ≡ [] → b ≡ true
no_rule true r e = refl
no_rule false r e = absurd cc

pub and_first : (a b : Bool) → (a && b) ≡ true → a ≡ true
and_first true b e = refl
and_first false b e = absurd cc

pub and_second : (a b : Bool) → (a && b) ≡ true → b ≡ true
and_second true b e = e
and_second false b e = absurd cc

module _ (S : List StructDecl) (kinds : List BlockKind) where
  -- a value of a kind
  abbrev pub HasKind : Memory → Kind → Value → Type 0
  HasKind m ANumber (Num n) = Unit {0}
  HasKind m ATruth (Truth b) = Unit {0}
  HasKind m AReadPointer (Ptr b o) = is_place m b o ≡ true
  HasKind m AWritePointer (Ptr b o) = (is_output (slice_get kinds b) ≡ true) × (is_place m b o ≡ true)
  HasKind m (AStruct x) (Str b) = is_struct S (slice_get kinds b) x ≡ true
  HasKind m k v = ⊥

  abbrev pub IsSound : Memory → Kind → Outcome → Type 0
  IsSound m k (Gives v) = HasKind m k v
  IsSound m k (Fails r) = IsReason r

  abbrev pub FitsBoth : Memory → Option Kind → Option Value → Type 0
  FitsBoth m None None = Unit {0}
  FitsBoth m (Some k) (Some v) = HasKind m k v
  FitsBoth m (Some k) None = ⊥
  FitsBoth m None (Some v) = ⊥

  -- ---- one value after another

  pub sound_then : (m : Memory) (k k' : Kind) (o : Outcome) (f : Value → Outcome) → IsSound m k o → ((v : Value) → HasKind m k v → IsSound m k' (f v)) → IsSound m k' (with_value o f)
  sound_then m k k' (Gives v) f h g = g v h
  sound_then m k k' (Fails r) f h g = h

  pub number_then : (m : Memory) (k : Kind) (P : Value → Type 0) (v : Value) → takes ANumber k ≡ true → HasKind m k v → ((n : ℕ) → P (Num n)) → P v
  number_then m ANumber P (Num n) e h g = g n
  number_then m ANumber P (Truth b) e h g = absurd h
  number_then m ANumber P (Ptr b o) e h g = absurd h
  number_then m ANumber P (Str b) e h g = absurd h
  number_then m ATruth P v e h g = absurd cc
  number_then m AReadPointer P v e h g = absurd cc
  number_then m AWritePointer P v e h g = absurd cc
  number_then m Unknown P (Num n) e h g = absurd h
  number_then m Unknown P (Truth b) e h g = absurd h
  number_then m Unknown P (Ptr b o) e h g = absurd h
  number_then m Unknown P (Str b) e h g = absurd h
  number_then m (AStruct s) P v e h g = absurd cc

  pub truth_then : (m : Memory) (k : Kind) (P : Value → Type 0) (v : Value) → takes ATruth k ≡ true → HasKind m k v → ((b : Bool) → P (Truth b)) → P v
  truth_then m ATruth P (Truth b) e h g = g b
  truth_then m ATruth P (Num n) e h g = absurd h
  truth_then m ATruth P (Ptr b o) e h g = absurd h
  truth_then m ATruth P (Str b) e h g = absurd h
  truth_then m ANumber P v e h g = absurd cc
  truth_then m AReadPointer P v e h g = absurd cc
  truth_then m AWritePointer P v e h g = absurd cc
  truth_then m Unknown P (Num n) e h g = absurd h
  truth_then m Unknown P (Truth b) e h g = absurd h
  truth_then m Unknown P (Ptr b o) e h g = absurd h
  truth_then m Unknown P (Str b) e h g = absurd h
  truth_then m (AStruct s) P v e h g = absurd cc

  -- ---- numbers

  shifted_left : (m : Memory) (t : Bool) (a b : ℕ) → IsSound m ANumber (if t then Gives (Num ((a * 2 ^ b) % 18446744073709551616)) else Fails 4)
  shifted_left m true a b = tt
  shifted_left m false a b = (omega arith, omega arith)

  shifted_right : (m : Memory) (t : Bool) (a b : ℕ) → IsSound m ANumber (if t then Gives (Num (a / 2 ^ b)) else Fails 4)
  shifted_right m true a b = tt
  shifted_right m false a b = (omega arith, omega arith)

  numbers : (m : Memory) (op : Op) (a b : ℕ) → (op ≡ And → ⊥) → (op ≡ Or → ⊥) → IsSound m (result_kind op ANumber) (on_numbers op a b)
  numbers m Add a b x y = tt
  numbers m Sub a b x y = tt
  numbers m Mul a b x y = tt
  numbers m Shl a b x y = shifted_left m (nat_lt b 64) a b
  numbers m Shr a b x y = shifted_right m (nat_lt b 64) a b
  numbers m BitAnd a b x y = tt
  numbers m BitOr a b x y = tt
  numbers m Eq a b x y = tt
  numbers m Ne a b x y = tt
  numbers m Lt a b x y = tt
  numbers m Le a b x y = tt
  numbers m Gt a b x y = tt
  numbers m Ge a b x y = tt
  numbers m And a b x y = absurd (x refl)
  numbers m Or a b x y = absurd (y refl)

  -- ---- pointers

  moved_read : (m : Memory) (o : Option Block) (b at_ n : ℕ) → slice_get m b ≡ o → is_place_in o at_ ≡ true → IsSound m AReadPointer (moved o b at_ n)
  moved_read m (Some (Bytes bytes)) b at_ n e h = by_test (nat_le (at_ + n) (length bytes)) refl
    where
      by_test : (t : Bool) → nat_le (at_ + n) (length bytes) ≡ t → IsSound m AReadPointer (if t then Gives (Ptr b (at_ + n)) else Fails 3)
      by_test true l = ap (λ (q : Option Block). is_place_in q (at_ + n)) e ∙ l
      by_test false l = (omega arith, omega arith)
  moved_read m (Some (Cells cells)) b at_ n e h = absurd cc
  moved_read m None b at_ n e h = absurd cc

  moved_write : (m : Memory) (o : Option Block) (b at_ n : ℕ) → slice_get m b ≡ o → is_output (slice_get kinds b) ≡ true → is_place_in o at_ ≡ true → IsSound m AWritePointer (moved o b at_ n)
  moved_write m (Some (Bytes bytes)) b at_ n e w h = by_test (nat_le (at_ + n) (length bytes)) refl
    where
      by_test : (t : Bool) → nat_le (at_ + n) (length bytes) ≡ t → IsSound m AWritePointer (if t then Gives (Ptr b (at_ + n)) else Fails 3)
      by_test true l = (w, ap (λ (q : Option Block). is_place_in q (at_ + n)) e ∙ l)
      by_test false l = (omega arith, omega arith)
  moved_write m (Some (Cells cells)) b at_ n e w h = absurd cc
  moved_write m None b at_ n e w h = absurd cc

  summed : (m : Memory) (k : Kind) (v : Value) (n : ℕ) → is_summand k ≡ true → HasKind m k v → IsSound m (sum_kind k) (applied m Add v (Num n))
  summed m ANumber (Num a) n e h = tt
  summed m ANumber (Truth b) n e h = absurd h
  summed m ANumber (Ptr b o) n e h = absurd h
  summed m ANumber (Str b) n e h = absurd h
  summed m ATruth v n e h = absurd cc
  summed m AReadPointer (Ptr b o) n e h = moved_read m (slice_get m b) b o n refl h
  summed m AReadPointer (Num a) n e h = absurd h
  summed m AReadPointer (Truth b) n e h = absurd h
  summed m AReadPointer (Str b) n e h = absurd h
  summed m AWritePointer (Ptr b o) n e h = moved_write m (slice_get m b) b o n refl h.0 h.1
  summed m AWritePointer (Num a) n e h = absurd h
  summed m AWritePointer (Truth b) n e h = absurd h
  summed m AWritePointer (Str b) n e h = absurd h
  summed m Unknown (Num a) n e h = absurd h
  summed m Unknown (Truth b) n e h = absurd h
  summed m Unknown (Ptr b o) n e h = absurd h
  summed m Unknown (Str b) n e h = absurd h
  summed m (AStruct s) v n e h = absurd cc

  loaded : (m : Memory) (o : Option Block) (at_ i : ℕ) → is_place_in o at_ ≡ true → IsSound m ANumber (byte_in o (at_ + i))
  loaded m (Some (Bytes bytes)) at_ i h = by_option (slice_get bytes (at_ + i))
    where
      by_option : (o : Option ℕ) → IsSound m ANumber (given_byte o)
      by_option (Some b) = tt
      by_option None = (omega arith, omega arith)
  loaded m (Some (Cells cells)) at_ i h = absurd cc
  loaded m None at_ i h = absurd cc

  -- a variable that loads go through
  through : (m : Memory) (o : Option Kind) (l : Option Value) (f : Value → Outcome) → FitsBoth m o l → asked_pointer o ≡ [] → ((b at_ : ℕ) → is_place m b at_ ≡ true → IsSound m ANumber (f (Ptr b at_))) → IsSound m ANumber (with_value (given l) f)
  through m (Some AReadPointer) (Some (Ptr b at_)) f h e g = g b at_ h
  through m (Some AReadPointer) (Some (Num a)) f h e g = absurd h
  through m (Some AReadPointer) (Some (Truth b)) f h e g = absurd h
  through m (Some AReadPointer) (Some (Str b)) f h e g = absurd h
  through m (Some AWritePointer) (Some (Ptr b at_)) f h e g = g b at_ h.1
  through m (Some AWritePointer) (Some (Num a)) f h e g = absurd h
  through m (Some AWritePointer) (Some (Truth b)) f h e g = absurd h
  through m (Some AWritePointer) (Some (Str b)) f h e g = absurd h
  through m (Some Unknown) (Some (Num a)) f h e g = absurd h
  through m (Some Unknown) (Some (Truth b)) f h e g = absurd h
  through m (Some Unknown) (Some (Ptr b o)) f h e g = absurd h
  through m (Some Unknown) (Some (Str b)) f h e g = absurd h
  through m (Some ANumber) l f h e g = absurd cc
  through m (Some ATruth) l f h e g = absurd cc
  through m (Some (AStruct s)) l f h e g = absurd cc
  through m (Some k) None f h e g = absurd h
  through m None l f h e g = absurd cc

  variable : (m : Memory) (o : Option Kind) (l : Option Value) → FitsBoth m o l → unless_known o ≡ [] → IsSound m (or_unknown o) (given l)
  variable m (Some k) (Some v) h e = h
  variable m (Some k) None h e = absurd h
  variable m None l h e = absurd cc

  -- ---- expressions

  module _ (St : List StructDecl) (K : Known) (env : Scopes) (m : Memory) (fits : (x : Name) → FitsBoth m (kind_in K x) (lookup env x))
      (cells : (b : ℕ) (s c : Name) → is_struct S (slice_get kinds b) s ≡ true → unless_known (cell_of St s c) ≡ [] → IsSound m (or_unknown (cell_of St s c)) (cell m c (Str b))) where
    pub member_sound : (o : Option Kind) (l : Option Value) (c : Name) → FitsBoth m o l → asked_cell St o c ≡ [] → IsSound m (member St o c) (with_value (given l) (cell m c))
    member_sound (Some (AStruct s)) (Some (Str b)) c h e = cells b s c h e
    member_sound (Some (AStruct s)) (Some (Num n)) c h e = absurd h
    member_sound (Some (AStruct s)) (Some (Truth b)) c h e = absurd h
    member_sound (Some (AStruct s)) (Some (Ptr b o)) c h e = absurd h
    member_sound (Some ANumber) l c h e = absurd cc
    member_sound (Some ATruth) l c h e = absurd cc
    member_sound (Some AReadPointer) l c h e = absurd cc
    member_sound (Some AWritePointer) l c h e = absurd cc
    member_sound (Some Unknown) (Some (Num n)) c h e = absurd h
    member_sound (Some Unknown) (Some (Truth b)) c h e = absurd h
    member_sound (Some Unknown) (Some (Ptr b o)) c h e = absurd h
    member_sound (Some Unknown) (Some (Str b)) c h e = absurd h
    member_sound (Some k) None c h e = absurd h
    member_sound None l c h e = absurd cc

    -- two operands of an operator
    logical_and : (ka kb : Kind) (a : Outcome) (b : Outcome) → IsSound m ka a → IsSound m kb b → takes ATruth ka ≡ true → takes ATruth kb ≡ true → IsSound m ATruth (with_value a (λ v. both v (λ _. b)))
    logical_and ka kb a b h k ta tb = sound_then m ka ATruth a (λ v. both v (λ _. b)) h (λ v hv. truth_then m ka (λ w. IsSound m ATruth (both w (λ _. b))) v ta hv (λ t. by_test t))
      where
        by_test : (t : Bool) → IsSound m ATruth (both (Truth t) (λ _. b))
        by_test true = sound_then m kb ATruth b must_be_truth k (λ v hv. truth_then m kb (λ w. IsSound m ATruth (must_be_truth w)) v tb hv (λ t. tt))
        by_test false = tt

    logical_or : (ka kb : Kind) (a : Outcome) (b : Outcome) → IsSound m ka a → IsSound m kb b → takes ATruth ka ≡ true → takes ATruth kb ≡ true → IsSound m ATruth (with_value a (λ v. either v (λ _. b)))
    logical_or ka kb a b h k ta tb = sound_then m ka ATruth a (λ v. either v (λ _. b)) h (λ v hv. truth_then m ka (λ w. IsSound m ATruth (either w (λ _. b))) v ta hv (λ t. by_test t))
      where
        by_test : (t : Bool) → IsSound m ATruth (either (Truth t) (λ _. b))
        by_test false = sound_then m kb ATruth b must_be_truth k (λ v hv. truth_then m kb (λ w. IsSound m ATruth (must_be_truth w)) v tb hv (λ t. tt))
        by_test true = tt

    sum : (ka kb : Kind) (a b : Outcome) → IsSound m ka a → IsSound m kb b → is_summand ka ≡ true → takes ANumber kb ≡ true → IsSound m (sum_kind ka) (with_value a (λ v. with_value b (λ w. applied m Add v w)))
    sum ka kb a b h k sa tb = sound_then m ka (sum_kind ka) a _ h (λ v hv. sound_then m kb (sum_kind ka) b _ k (λ w hw. number_then m kb (λ x. IsSound m (sum_kind ka) (applied m Add v x)) w tb hw (λ n. summed m ka v n sa hv)))

    on_two : (op : Op) (ka kb : Kind) (a b : Outcome) → (op ≡ And → ⊥) → (op ≡ Or → ⊥) → IsSound m ka a → IsSound m kb b → takes ANumber ka ≡ true → takes ANumber kb ≡ true →
        IsSound m (result_kind op ANumber) (with_value a (λ v. with_value b (λ w. applied m op v w)))
    on_two op ka kb a b x y h k ta tb = sound_then m ka (result_kind op ANumber) a _ h (λ v hv. sound_then m kb (result_kind op ANumber) b _ k (λ w hw.
        number_then m ka (λ p. IsSound m (result_kind op ANumber) (applied m op p w)) v ta hv (λ i. number_then m kb (λ q. IsSound m (result_kind op ANumber) (applied m op (Num i) q)) w tb hw (λ j. numbers m op i j x y))))

    pub binary_sound : (op : Op) (ka kb : Kind) (a b : Outcome) → IsSound m ka a → IsSound m kb b → operands_fit op ka kb ≡ true → IsSound m (result_kind op ka) (binary m op a (λ _. b))
    binary_sound Add ka kb a b h k e = sum ka kb a b h k (and_first (is_summand ka) (takes ANumber kb) e) (and_second (is_summand ka) (takes ANumber kb) e)
    binary_sound And ka kb a b h k e = logical_and ka kb a b h k (and_first (takes ATruth ka) (takes ATruth kb) e) (and_second (takes ATruth ka) (takes ATruth kb) e)
    binary_sound Or ka kb a b h k e = logical_or ka kb a b h k (and_first (takes ATruth ka) (takes ATruth kb) e) (and_second (takes ATruth ka) (takes ATruth kb) e)
    binary_sound Sub ka kb a b h k e = on_two Sub ka kb a b (λ x. cc) (λ x. cc) h k (and_first (takes ANumber ka) (takes ANumber kb) e) (and_second (takes ANumber ka) (takes ANumber kb) e)
    binary_sound Mul ka kb a b h k e = on_two Mul ka kb a b (λ x. cc) (λ x. cc) h k (and_first (takes ANumber ka) (takes ANumber kb) e) (and_second (takes ANumber ka) (takes ANumber kb) e)
    binary_sound Shl ka kb a b h k e = on_two Shl ka kb a b (λ x. cc) (λ x. cc) h k (and_first (takes ANumber ka) (takes ANumber kb) e) (and_second (takes ANumber ka) (takes ANumber kb) e)
    binary_sound Shr ka kb a b h k e = on_two Shr ka kb a b (λ x. cc) (λ x. cc) h k (and_first (takes ANumber ka) (takes ANumber kb) e) (and_second (takes ANumber ka) (takes ANumber kb) e)
    binary_sound BitAnd ka kb a b h k e = on_two BitAnd ka kb a b (λ x. cc) (λ x. cc) h k (and_first (takes ANumber ka) (takes ANumber kb) e) (and_second (takes ANumber ka) (takes ANumber kb) e)
    binary_sound BitOr ka kb a b h k e = on_two BitOr ka kb a b (λ x. cc) (λ x. cc) h k (and_first (takes ANumber ka) (takes ANumber kb) e) (and_second (takes ANumber ka) (takes ANumber kb) e)
    binary_sound Eq ka kb a b h k e = on_two Eq ka kb a b (λ x. cc) (λ x. cc) h k (and_first (takes ANumber ka) (takes ANumber kb) e) (and_second (takes ANumber ka) (takes ANumber kb) e)
    binary_sound Ne ka kb a b h k e = on_two Ne ka kb a b (λ x. cc) (λ x. cc) h k (and_first (takes ANumber ka) (takes ANumber kb) e) (and_second (takes ANumber ka) (takes ANumber kb) e)
    binary_sound Lt ka kb a b h k e = on_two Lt ka kb a b (λ x. cc) (λ x. cc) h k (and_first (takes ANumber ka) (takes ANumber kb) e) (and_second (takes ANumber ka) (takes ANumber kb) e)
    binary_sound Le ka kb a b h k e = on_two Le ka kb a b (λ x. cc) (λ x. cc) h k (and_first (takes ANumber ka) (takes ANumber kb) e) (and_second (takes ANumber ka) (takes ANumber kb) e)
    binary_sound Gt ka kb a b h k e = on_two Gt ka kb a b (λ x. cc) (λ x. cc) h k (and_first (takes ANumber ka) (takes ANumber kb) e) (and_second (takes ANumber ka) (takes ANumber kb) e)
    binary_sound Ge ka kb a b h k e = on_two Ge ka kb a b (λ x. cc) (λ x. cc) h k (and_first (takes ANumber ka) (takes ANumber kb) e) (and_second (takes ANumber ka) (takes ANumber kb) e)

    negated_sound : (k : Kind) (o : Outcome) → IsSound m k o → takes ATruth k ≡ true → IsSound m ATruth (with_value o negated)
    negated_sound k o h t = sound_then m k ATruth o negated h (λ v hv. truth_then m k (λ w. IsSound m ATruth (negated w)) v t hv (λ b. tt))

    load_sound : (k : Kind) (o : Outcome) (b at_ : ℕ) → IsSound m k o → takes ANumber k ≡ true → is_place m b at_ ≡ true → IsSound m ANumber (with_value o (load m (Ptr b at_)))
    load_sound k o b at_ h t p = sound_then m k ANumber o (load m (Ptr b at_)) h (λ v hv. number_then m k (λ w. IsSound m ANumber (load m (Ptr b at_) w)) v t hv (λ n. loaded m (slice_get m b) at_ n p))

    mutual
      pub expr_sound : (e : Expr) → broken_by St K e ≡ [] → IsSound m (kind_of St K e) (value_of e env m)
      expr_sound (Number n) h = tt
      expr_sound (Var x) h = variable m (kind_in K x) (lookup env x) (fits x) h
      expr_sound (CellOf x c) h = member_sound (kind_in K x) (lookup env x) c (fits x) h
      expr_sound (Load' x s i) h =
          let front = front_nil (asked_pointer (kind_in K x) ++ operand_broken St K i) (unless (takes ANumber (operand_kind St K i)) 2) h in
          let last = no_rule (takes ANumber (operand_kind St K i)) 2 (back_nil (asked_pointer (kind_in K x) ++ operand_broken St K i) (unless (takes ANumber (operand_kind St K i)) 2) h) in
          let inner = operand_sound i refl (back_nil (asked_pointer (kind_in K x)) (operand_broken St K i) front) in
          through m (kind_in K x) (lookup env x) _ (fits x) (front_nil (asked_pointer (kind_in K x)) (operand_broken St K i) front) (λ b at_ p. load_sound (operand_kind St K i) (operand i env m) b at_ inner last p)
      expr_sound (Binary' op s a t b) h =
          let front = front_nil (operand_broken St K a ++ operand_broken St K b) (unless (operands_fit op (operand_kind St K a) (operand_kind St K b)) 2) h in
          let last = no_rule (operands_fit op (operand_kind St K a) (operand_kind St K b)) 2 (back_nil (operand_broken St K a ++ operand_broken St K b) (unless (operands_fit op (operand_kind St K a) (operand_kind St K b)) 2) h) in
          binary_sound op (operand_kind St K a) (operand_kind St K b) (operand a env m) (operand b env m) (operand_sound a refl (front_nil (operand_broken St K a) (operand_broken St K b) front)) (operand_sound b refl (back_nil (operand_broken St K a) (operand_broken St K b) front)) last
      expr_sound (Not' s a) h =
          let front = front_nil (operand_broken St K a) (unless (takes ATruth (operand_kind St K a)) 2) h in
          let last = no_rule (takes ATruth (operand_kind St K a)) 2 (back_nil (operand_broken St K a) (unless (takes ATruth (operand_kind St K a)) 2) h) in
          negated_sound (operand_kind St K a) (operand a env m) (operand_sound a refl front) last

      operand_sound : {n : _} (r : Row_of-Expr n) → n ≡ 1 → operand_broken St K r ≡ [] → IsSound m (operand_kind St K r) (operand r env m)
      operand_sound end_of-Expr one h = absurd cc
      operand_sound (more_of-Expr e rest) one h = expr_sound e h
