-- All fixed functions together: where each is put, that all of them stay there, and what they mean there.
use Rattle.std.proofs.Common.{◌≡◌, ℕ, zero, suc, ◌≤◌, List, [], ◌∷◌, ◌++◌, ap, sym, subst, ◌∙◌, append_assoc, arith}
use Rattle.std.specs.Prelude.{codes}
use Rattle.ecd_cast.specs.declared.tree.CItem.{CItem}
use Rattle.ecd_cast.specs.declared.tree.CItem.TheVariants.{Function as AFunction}
use Rattle.ecd_cast.specs.Kept.{IsNew}
use Rattle.ecd_cast.specs.Meaning.{calls_of}
use Rattle.ecd_fixed_heads.specs.Heads.{head_functions, head_names}
use Rattle.ecd_fixed_heads.specs.Extents.{extent_functions, extent_names}
use Rattle.ecd_fixed_heads.specs.ExtentsStanding.{ExtentsAreThere, ExtentsMean}
use Rattle.ecd_fixed_bytes.specs.Utf8.{utf8_functions, utf8_names}
use Rattle.ecd_keyorder.specs.declared.Order.{Order}
use Rattle.ecd_fixed_bytes.specs.Compare.{compare_bytes, ComparesBytes}
use Rattle.ecd_fixed_bytes.specs.HeadWriter.{put_functions, put_names}
use Rattle.ecd_fixed_bytes.specs.Copier.{copy_bytes, CopiesBytes}
use Rattle.ecd_emit.specs.Among.{AreNew, IsAmong}
use Rattle.ecd_fixed_heads.specs.Standing.{HeadsAreThere, HeadsMean}
use Rattle.ecd_fixed_bytes.specs.Standing.{ComparisonIsThere, Utf8IsThere, Utf8Means, HeadWriterIsThere, HeadWriterMeans}
use Rattle.ecd_emit.proofs.Kept.{callee_kept, among_kept}
use Rattle.ecd_fixed_heads.proofs.Kept.{heads_are_kept}
use Rattle.ecd_fixed_bytes.proofs.Kept.{comparison_is_kept, utf8_is_kept, head_writer_is_kept}
use Rattle.ecd_fixed_heads.proofs.Extended.{extents_are_kept}
use Rattle.ecd_emit.proofs.Placed.{new_behind}
use Rattle.ecd_rt.specs.Names.{any_name}
use Rattle.ecd_rt.specs.Trees.{text_end, any_end, any_functions, any_names, level_names}
use Rattle.ecd_rt.specs.Meanings.{TextEnd, IsAny}
use Rattle.ecd_rt.specs.Standing.{FrontIsThere, FrontMeans, AnyIsThere, AnyMeans}
use Rattle.ecd_rt.specs.Runtime.{front_functions, front_names, writing_functions, writing_names, runtime_functions, runtime_names, RuntimeIsThere, RuntimeMeans, RuntimeIsKept}
use Rattle.ecd_rt.proofs.Fresh.{first_names, last_names, names_below, new_in_both, extents_behind_heads, utf8_behind, comparison_behind, heads_before, extents_before, utf8_before, writing_behind_front, copier_behind, puts_before, front_before_writing, any_behind_front, front_any, writing_any, any_before_writing}

abbrev pub comparing : Order → List CItem
comparing order = AFunction (compare_bytes order) ∷ []

-- ---- what is kept

pub front_stays : (items more : List CItem) → FrontIsThere items → FrontIsThere (items ++ more)
front_stays items more h = record {
  heads = heads_are_kept.there items more h.heads;
  extents = extents_are_kept.there items more h.extents;
  utf8 = utf8_is_kept.there items more h.utf8;
  comparison = comparison_is_kept.there items more h.comparison;
}

pub front_goes_on : (order : Order) (items more : List CItem) → AreNew front_names more → FrontMeans order items → FrontMeans order (items ++ more)
front_goes_on order items more new h =
    let behind_heads = last_names head_names (extent_names ++ (utf8_names ++ codes "compare_bytes" ∷ [])) more new in
    let behind_extents = last_names extent_names (utf8_names ++ codes "compare_bytes" ∷ []) more behind_heads in
    record {
      heads = heads_are_kept.mean items more (first_names head_names (extent_names ++ (utf8_names ++ codes "compare_bytes" ∷ [])) more new) h.heads;
      extents = extents_are_kept.mean items more (first_names extent_names (utf8_names ++ codes "compare_bytes" ∷ []) more behind_heads) h.extents;
      utf8 = utf8_is_kept.mean items more (first_names utf8_names (codes "compare_bytes" ∷ []) more behind_extents) h.utf8;
      comparison = callee_kept (ComparesBytes order) items more (codes "compare_bytes") behind_extents.1.1.1.0 h.comparison;
    }

pub any_stays : (depth : ℕ) (items more : List CItem) → AnyIsThere depth items → AnyIsThere depth (items ++ more)
any_stays depth items more h = record { text = among_kept text_end items more h.text; each = λ k le. among_kept (any_end k) items more (h.each k le) }

last_any : (k : ℕ) (items : List CItem) → AreNew (any_names k) items → IsNew (any_name k) items
last_any zero items h = h.1.0
last_any (suc k) items h = (last_names (any_names k) (level_names k) items h).1.1.0

pub any_goes_on : (order : Order) (depth : ℕ) (items more : List CItem) → AreNew (any_names depth) more → AnyMeans order depth items → AnyMeans order depth (items ++ more)
any_goes_on order depth items more new h = record {
  text = callee_kept TextEnd items more (codes "text_end") (names_below depth 0 (omega arith) more new).0 h.text;
  each = λ k le. callee_kept (IsAny order k) items more (any_name k) (last_any k more (names_below depth k le more new)) (h.each k le);
}

there_kept : (depth : ℕ) (items more : List CItem) → RuntimeIsThere depth items → RuntimeIsThere depth (items ++ more)
there_kept depth items more h =
    let front = front_stays items more (record { heads = h.heads; extents = h.extents; utf8 = h.utf8; comparison = h.comparison }) in
    record {
      heads = front.heads;
      extents = front.extents;
      utf8 = front.utf8;
      comparison = front.comparison;
      any = any_stays depth items more h.any;
      writer = head_writer_is_kept.there items more h.writer;
      copier = among_kept copy_bytes items more h.copier;
    }

mean_kept : (order : Order) (depth : ℕ) (items more : List CItem) → AreNew (runtime_names depth) more → RuntimeMeans order depth items → RuntimeMeans order depth (items ++ more)
mean_kept order depth items more new h =
    let behind = last_names front_names (any_names depth ++ writing_names) more new in
    let writing = last_names (any_names depth) writing_names more behind in
    let front = front_goes_on order items more (first_names front_names (any_names depth ++ writing_names) more new) (record { heads = h.heads; extents = h.extents; utf8 = h.utf8; comparison = h.comparison }) in
    record {
      heads = front.heads;
      extents = front.extents;
      utf8 = front.utf8;
      comparison = front.comparison;
      any = any_goes_on order depth items more (first_names (any_names depth) writing_names more behind) h.any;
      writer = head_writer_is_kept.mean items more (first_names put_names (codes "copy_bytes" ∷ []) more writing) h.writer;
      copier = callee_kept CopiesBytes items more (codes "copy_bytes") (last_names put_names (codes "copy_bytes" ∷ []) more writing).0 h.copier;
    }

pub runtime_is_kept : RuntimeIsKept
runtime_is_kept = record { there = there_kept; mean = mean_kept }

-- ---- what is put first

module _ (old b1 : List CItem) (e1 : b1 ≡ old ++ head_functions) (new : AreNew front_names old) where
  behind_heads : AreNew (extent_names ++ (utf8_names ++ codes "compare_bytes" ∷ [])) old
  behind_heads = last_names head_names (extent_names ++ (utf8_names ++ codes "compare_bytes" ∷ [])) old new

  behind_extents : AreNew (utf8_names ++ codes "compare_bytes" ∷ []) old
  behind_extents = last_names extent_names (utf8_names ++ codes "compare_bytes" ∷ []) old behind_heads

  pub extents_new : AreNew extent_names b1
  extents_new = subst (AreNew extent_names) (sym e1) (new_in_both extent_names old head_functions (first_names extent_names (utf8_names ++ codes "compare_bytes" ∷ []) old behind_heads) extents_behind_heads)

  module _ (b2 : List CItem) (e2 : b2 ≡ b1 ++ extent_functions) where
    two : b2 ≡ old ++ (head_functions ++ extent_functions)
    two = e2 ∙ (ap (λ (l : List CItem). l ++ extent_functions) e1 ∙ append_assoc old head_functions extent_functions)

    pub utf8_new : AreNew utf8_names b2
    utf8_new = subst (AreNew utf8_names) (sym two) (new_in_both utf8_names old (head_functions ++ extent_functions) (first_names utf8_names (codes "compare_bytes" ∷ []) old behind_extents) utf8_behind)

    module _ (b3 : List CItem) (e3 : b3 ≡ b2 ++ utf8_functions) where
      three : b3 ≡ old ++ (head_functions ++ (extent_functions ++ utf8_functions))
      three =
          e3 ∙ (ap (λ (l : List CItem). l ++ utf8_functions) two ∙ (append_assoc old (head_functions ++ extent_functions) utf8_functions ∙ ap (λ (l : List CItem). old ++ l) (append_assoc head_functions extent_functions utf8_functions)))

      pub comparison_new : IsNew (codes "compare_bytes") b3
      comparison_new = subst (IsNew (codes "compare_bytes")) (sym three) (new_behind old (head_functions ++ (extent_functions ++ utf8_functions)) (codes "compare_bytes") (last_names utf8_names (codes "compare_bytes" ∷ []) old behind_extents).0 comparison_behind)

      module _ (order : Order) (b4 : List CItem) (e4 : b4 ≡ b3 ++ comparing order) where
        from_2 : b4 ≡ b2 ++ (utf8_functions ++ comparing order)
        from_2 = e4 ∙ (ap (λ (l : List CItem). l ++ comparing order) e3 ∙ append_assoc b2 utf8_functions (comparing order))

        from_1 : b4 ≡ b1 ++ (extent_functions ++ (utf8_functions ++ comparing order))
        from_1 = from_2 ∙ (ap (λ (l : List CItem). l ++ (utf8_functions ++ comparing order)) e2 ∙ append_assoc b1 extent_functions (utf8_functions ++ comparing order))

        pub front_is : b4 ≡ old ++ front_functions order
        front_is = from_1 ∙ (ap (λ (l : List CItem). l ++ (extent_functions ++ (utf8_functions ++ comparing order))) e1 ∙ append_assoc old head_functions (extent_functions ++ (utf8_functions ++ comparing order)))

        pub front_there : HeadsAreThere b1 → ExtentsAreThere b2 → Utf8IsThere b3 → ComparisonIsThere b4 → FrontIsThere b4
        front_there heads extents utf8 comparison = record {
          heads = subst HeadsAreThere (sym from_1) (heads_are_kept.there b1 (extent_functions ++ (utf8_functions ++ comparing order)) heads);
          extents = subst ExtentsAreThere (sym from_2) (extents_are_kept.there b2 (utf8_functions ++ comparing order) extents);
          utf8 = subst Utf8IsThere (sym e4) (utf8_is_kept.there b3 (comparing order) utf8);
          comparison = comparison;
        }

        pub front_means : HeadsMean b1 → ExtentsMean b2 → Utf8Means b3 → ComparesBytes order (calls_of b4 (codes "compare_bytes")) → FrontMeans order b4
        front_means heads extents utf8 comparison = record {
          heads = subst HeadsMean (sym from_1) (heads_are_kept.mean b1 (extent_functions ++ (utf8_functions ++ comparing order)) (heads_before order) heads);
          extents = subst ExtentsMean (sym from_2) (extents_are_kept.mean b2 (utf8_functions ++ comparing order) (extents_before order) extents);
          utf8 = subst Utf8Means (sym e4) (utf8_is_kept.mean b3 (comparing order) (utf8_before order) utf8);
          comparison = comparison;
        }

-- ---- what writes

module _ (old b1 : List CItem) (e1 : b1 ≡ old ++ put_functions) (new : AreNew writing_names old) where
  pub copier_new : IsNew (codes "copy_bytes") b1
  copier_new = subst (IsNew (codes "copy_bytes")) (sym e1) (new_behind old put_functions (codes "copy_bytes") (last_names put_names (codes "copy_bytes" ∷ []) old new).0 copier_behind)

  module _ (b2 : List CItem) (e2 : b2 ≡ b1 ++ AFunction copy_bytes ∷ []) where
    pub writing_is : b2 ≡ old ++ writing_functions
    writing_is = e2 ∙ (ap (λ (l : List CItem). l ++ AFunction copy_bytes ∷ []) e1 ∙ append_assoc old put_functions (AFunction copy_bytes ∷ []))

    pub writer_there : HeadWriterIsThere b1 → HeadWriterIsThere b2
    writer_there h = subst HeadWriterIsThere (sym e2) (head_writer_is_kept.there b1 (AFunction copy_bytes ∷ []) h)

    pub writer_means : HeadWriterMeans b1 → HeadWriterMeans b2
    writer_means h = subst HeadWriterMeans (sym e2) (head_writer_is_kept.mean b1 (AFunction copy_bytes ∷ []) puts_before h)

-- ---- all of them

module _ (order : Order) (depth : ℕ) (deep : depth ≤ 32) (old b1 : List CItem) (e1 : b1 ≡ old ++ front_functions order) (new : AreNew (runtime_names depth) old) where
  behind_front : AreNew (any_names depth ++ writing_names) old
  behind_front = last_names front_names (any_names depth ++ writing_names) old new

  pub chain_new : AreNew (any_names depth) b1
  chain_new = subst (AreNew (any_names depth)) (sym e1) (new_in_both (any_names depth) old (front_functions order) (first_names (any_names depth) writing_names old behind_front) (any_behind_front order depth deep))

  module _ (b2 : List CItem) (e2 : b2 ≡ b1 ++ any_functions depth) where
    chained : b2 ≡ old ++ (front_functions order ++ any_functions depth)
    chained = e2 ∙ (ap (λ (l : List CItem). l ++ any_functions depth) e1 ∙ append_assoc old (front_functions order) (any_functions depth))

    pub writing_new : AreNew writing_names b2
    writing_new =
        subst (AreNew writing_names) (sym chained)
        (new_in_both writing_names old (front_functions order ++ any_functions depth) (last_names (any_names depth) writing_names old behind_front) (new_in_both writing_names (front_functions order) (any_functions depth) (writing_behind_front order) (writing_any depth)))

    module _ (b3 : List CItem) (e3 : b3 ≡ b2 ++ writing_functions) where
      behind_1 : b3 ≡ b1 ++ (any_functions depth ++ writing_functions)
      behind_1 = e3 ∙ (ap (λ (l : List CItem). l ++ writing_functions) e2 ∙ append_assoc b1 (any_functions depth) writing_functions)

      pub runtime_is : b3 ≡ old ++ runtime_functions order depth
      runtime_is = behind_1 ∙ (ap (λ (l : List CItem). l ++ (any_functions depth ++ writing_functions)) e1 ∙ append_assoc old (front_functions order) (any_functions depth ++ writing_functions))

      pub runtime_there : FrontIsThere b1 → AnyIsThere depth b2 → HeadWriterIsThere b3 → IsAmong copy_bytes b3 → RuntimeIsThere depth b3
      runtime_there front any writer copier =
          let all : FrontIsThere b3 = subst FrontIsThere (sym behind_1) (front_stays b1 (any_functions depth ++ writing_functions) front) in
          record {
            heads = all.heads;
            extents = all.extents;
            utf8 = all.utf8;
            comparison = all.comparison;
            any = subst (AnyIsThere depth) (sym e3) (any_stays depth b2 writing_functions any);
            writer = writer;
            copier = copier;
          }

      pub runtime_means : FrontMeans order b1 → AnyMeans order depth b2 → HeadWriterMeans b3 → CopiesBytes (calls_of b3 (codes "copy_bytes")) → RuntimeMeans order depth b3
      runtime_means front any writer copier =
          let fresh = new_in_both front_names (any_functions depth) writing_functions (front_any depth deep) front_before_writing in
          let all : FrontMeans order b3 = subst (FrontMeans order) (sym behind_1) (front_goes_on order b1 (any_functions depth ++ writing_functions) fresh front) in
          record {
            heads = all.heads;
            extents = all.extents;
            utf8 = all.utf8;
            comparison = all.comparison;
            any = subst (AnyMeans order depth) (sym e3) (any_goes_on order depth b2 writing_functions (any_before_writing depth) any);
            writer = writer;
            copier = copier;
          }
