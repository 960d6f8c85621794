-- The functions over heads behind other items: each is valid there, and means what it is to mean.
use Rattle.std.proofs.Common.{◌+◌, List, [], ◌∷◌, ◌++◌, length, refl, ap, sym, ◌∙◌}
use Rattle.std.specs.Prelude.{codes}
use Rattle.std.specs.Int.{w16, w32, w64}
use Rattle.ecd_cast.specs.declared.tree.CItem.{CItem}
use Rattle.ecd_cast.specs.declared.tree.CItem.TheVariants.{Function as AFunction}
use Rattle.ecd_cast.specs.Meaning.{calls_of}
use Rattle.ecd_cast.specs.Validity.{IsValidAfter}
use Rattle.ecd_head.specs.declared.Head.{Head}
use Rattle.ecd_fixed_heads.specs.Firsts.{size_from, least_from}
use Rattle.ecd_fixed_heads.specs.Meanings.{LoadsNumber, OfFirst, HeadArgument, HeadEnd, HeadWithin}
use Rattle.ecd_fixed_heads.specs.Heads.{head_names, head_functions, load_be16, load_be32, load_be64, head_size, head_least, head_argument, head_end, head_within}
use Rattle.ecd_emit.specs.Among.{AreNew}
use Rattle.ecd_fixed_heads.specs.Standing.{HeadsAreThere, HeadsMean}
use Rattle.ecd_fixed_heads.proofs.Numbers.{be16_answers, be32_answers, be64_answers}
use Rattle.ecd_fixed_heads.proofs.FirstBytes.{size_answers, least_answers}
use Rattle.ecd_fixed_heads.proofs.Arguments.{argument_answers, read_there}
use Rattle.ecd_fixed_heads.proofs.Ends.{end_answers, within_answers}
use Rattle.ecd_fixed_heads.proofs.Valid.{be16_valid, be32_valid, be64_valid, size_valid, least_valid, argument_valid, end_valid, within_valid}
use Rattle.ecd_emit.proofs.Placed.{placed_last, kept, free_behind, among}

-- ---- the functions, one behind the other

abbrev pub first_1 : List CItem
first_1 = AFunction load_be16 ∷ []

abbrev pub first_2 : List CItem
first_2 = AFunction load_be16 ∷ AFunction load_be32 ∷ []

abbrev pub first_3 : List CItem
first_3 = AFunction load_be16 ∷ AFunction load_be32 ∷ AFunction load_be64 ∷ []

abbrev pub first_4 : List CItem
first_4 = AFunction load_be16 ∷ AFunction load_be32 ∷ AFunction load_be64 ∷ AFunction head_size ∷ []

abbrev pub first_5 : List CItem
first_5 = AFunction load_be16 ∷ AFunction load_be32 ∷ AFunction load_be64 ∷ AFunction head_size ∷ AFunction head_least ∷ []

abbrev pub first_6 : List CItem
first_6 = AFunction load_be16 ∷ AFunction load_be32 ∷ AFunction load_be64 ∷ AFunction head_size ∷ AFunction head_least ∷ AFunction head_argument ∷ []

abbrev pub first_7 : List CItem
first_7 = AFunction load_be16 ∷ AFunction load_be32 ∷ AFunction load_be64 ∷ AFunction head_size ∷ AFunction head_least ∷ AFunction head_argument ∷ AFunction head_end ∷ []

module _ (old : List CItem) where
  be16_means : LoadsNumber w16 1 (calls_of (old ++ first_1) (codes "load_be16"))
  unfolding load_be16
  be16_means = placed_last (LoadsNumber w16 1) old [] load_be16 (record { answers = λ block offset len at m bytes w le. be16_answers (calls_of (old ++ [])) (0 + length (old ++ [])) block offset len at m bytes w le })

  be32_means : LoadsNumber w32 5 (calls_of (old ++ first_2) (codes "load_be32"))
  unfolding load_be32
  be32_means = placed_last (LoadsNumber w32 5) old first_1 load_be32 (record { answers = λ block offset len at m bytes w le. be32_answers (calls_of (old ++ first_1)) (0 + length (old ++ first_1)) block offset len at m bytes w be16_means le })

  be64_means : LoadsNumber w64 13 (calls_of (old ++ first_3) (codes "load_be64"))
  unfolding load_be64
  be64_means = placed_last (LoadsNumber w64 13) old first_2 load_be64 (record { answers = λ block offset len at m bytes w le. be64_answers (calls_of (old ++ first_2)) (0 + length (old ++ first_2)) block offset len at m bytes w be32_means le })

  size_means : OfFirst size_from 14 (calls_of (old ++ first_4) (codes "head_size"))
  unfolding head_size
  size_means = placed_last (OfFirst size_from 14) old first_3 head_size (record { answers = λ first m. size_answers (calls_of (old ++ first_3)) (0 + length (old ++ first_3)) first m })

  least_means : OfFirst least_from 12 (calls_of (old ++ first_5) (codes "head_least"))
  unfolding head_least
  least_means = placed_last (OfFirst least_from 12) old first_4 head_least (record { answers = λ first m. least_answers (calls_of (old ++ first_4)) (0 + length (old ++ first_4)) first m })

  argument_means : HeadArgument (calls_of (old ++ first_6) (codes "head_argument"))
  unfolding head_argument load_be32 load_be64 head_size head_least
  argument_means =
      let before : List CItem = old ++ first_5 in
      let be16 = kept (LoadsNumber w16 1) old first_1 (AFunction load_be32 ∷ AFunction load_be64 ∷ AFunction head_size ∷ AFunction head_least ∷ []) (codes "load_be16") (refl, (refl, (refl, (refl, tt)))) be16_means in
      let be32 = kept (LoadsNumber w32 5) old first_2 (AFunction load_be64 ∷ AFunction head_size ∷ AFunction head_least ∷ []) (codes "load_be32") (refl, (refl, (refl, tt))) be32_means in
      let be64 = kept (LoadsNumber w64 13) old first_3 (AFunction head_size ∷ AFunction head_least ∷ []) (codes "load_be64") (refl, (refl, tt)) be64_means in
      placed_last HeadArgument old first_5 head_argument (record {
        carried = λ block offset len at m bytes w some room. argument_answers (calls_of before) (0 + length before) block offset len at m bytes w be16 be32 be64 some room;
        answers = λ block offset len at size m bytes head w e.
            let o = read_there block offset len at m bytes w head size e in
            let a = argument_answers (calls_of before) (0 + length before) block offset len at m bytes w be16 be32 be64 o.0 o.1 in
            record { answer = a.answer; does = a.does; has = a.has ∙ sym (ap (λ (h : Head). h.arg) o.2) };
      })

  end_means : HeadEnd (calls_of (old ++ first_7) (codes "head_end"))
  unfolding head_end head_least head_argument
  end_means =
      let before : List CItem = old ++ first_6 in
      let size = kept (OfFirst size_from 14) old first_4 (AFunction head_least ∷ AFunction head_argument ∷ []) (codes "head_size") (refl, (refl, tt)) size_means in
      let least = kept (OfFirst least_from 12) old first_5 (AFunction head_argument ∷ []) (codes "head_least") (refl, tt) least_means in
      placed_last HeadEnd old first_6 head_end (record { answers = λ block offset len at m bytes w le. end_answers (calls_of before) (0 + length before) block offset len at m bytes w size least argument_means le })

  within_means : HeadWithin (calls_of (old ++ head_functions) (codes "head_within"))
  unfolding head_within head_end
  within_means =
      let before : List CItem = old ++ first_7 in
      let argument = kept HeadArgument old first_6 (AFunction head_end ∷ []) (codes "head_argument") (refl, tt) argument_means in
      placed_last HeadWithin old first_7 head_within (record { answers = λ block offset len at major lo hi m bytes w le. within_answers (calls_of before) (0 + length before) block offset len at m bytes w major lo hi end_means argument le })

  pub heads_mean : HeadsMean (old ++ head_functions)
  unfolding load_be32 load_be64 head_size head_least head_argument head_end head_within
  heads_mean = record {
    be16 = kept (LoadsNumber w16 1) old first_1 (AFunction load_be32 ∷ AFunction load_be64 ∷ AFunction head_size ∷ AFunction head_least ∷ AFunction head_argument ∷ AFunction head_end ∷ AFunction head_within ∷ []) (codes "load_be16")
        (refl, (refl, (refl, (refl, (refl, (refl, (refl, tt))))))) be16_means;
    be32 = kept (LoadsNumber w32 5) old first_2 (AFunction load_be64 ∷ AFunction head_size ∷ AFunction head_least ∷ AFunction head_argument ∷ AFunction head_end ∷ AFunction head_within ∷ []) (codes "load_be32")
        (refl, (refl, (refl, (refl, (refl, (refl, tt)))))) be32_means;
    be64 = kept (LoadsNumber w64 13) old first_3 (AFunction head_size ∷ AFunction head_least ∷ AFunction head_argument ∷ AFunction head_end ∷ AFunction head_within ∷ []) (codes "load_be64") (refl, (refl, (refl, (refl, (refl, tt))))) be64_means;
    size = kept (OfFirst size_from 14) old first_4 (AFunction head_least ∷ AFunction head_argument ∷ AFunction head_end ∷ AFunction head_within ∷ []) (codes "head_size") (refl, (refl, (refl, (refl, tt)))) size_means;
    least = kept (OfFirst least_from 12) old first_5 (AFunction head_argument ∷ AFunction head_end ∷ AFunction head_within ∷ []) (codes "head_least") (refl, (refl, (refl, tt))) least_means;
    argument = kept HeadArgument old first_6 (AFunction head_end ∷ AFunction head_within ∷ []) (codes "head_argument") (refl, (refl, tt)) argument_means;
    end = kept HeadEnd old first_7 (AFunction head_within ∷ []) (codes "head_end") (refl, tt) end_means;
    within = within_means;
  }

module _ (old : List CItem) (new : AreNew head_names old) where
  pub valid_1 : IsValidAfter (old ++ []) (AFunction load_be16)
  valid_1 = be16_valid (old ++ []) (free_behind old [] (codes "load_be16") new.0 tt)

  pub valid_2 : IsValidAfter (old ++ first_1) (AFunction load_be32)
  unfolding load_be16
  valid_2 = be32_valid (old ++ first_1) (free_behind old first_1 (codes "load_be32") new.1.0 (refl, tt)) (among old first_1 load_be16 (codes "load_be16") refl new.0 refl)

  pub valid_3 : IsValidAfter (old ++ first_2) (AFunction load_be64)
  unfolding load_be16 load_be32
  valid_3 = be64_valid (old ++ first_2) (free_behind old first_2 (codes "load_be64") new.1.1.0 (refl, (refl, tt))) (among old first_2 load_be32 (codes "load_be32") refl new.1.0 refl)

  pub valid_4 : IsValidAfter (old ++ first_3) (AFunction head_size)
  unfolding load_be16 load_be32 load_be64
  valid_4 = size_valid (old ++ first_3) (free_behind old first_3 (codes "head_size") new.1.1.1.0 (refl, (refl, (refl, tt))))

  pub valid_5 : IsValidAfter (old ++ first_4) (AFunction head_least)
  unfolding load_be16 load_be32 load_be64 head_size
  valid_5 = least_valid (old ++ first_4) (free_behind old first_4 (codes "head_least") new.1.1.1.1.0 (refl, (refl, (refl, (refl, tt)))))

  pub valid_6 : IsValidAfter (old ++ first_5) (AFunction head_argument)
  unfolding load_be16 load_be32 load_be64 head_size head_least
  valid_6 = argument_valid (old ++ first_5) (free_behind old first_5 (codes "head_argument") new.1.1.1.1.1.0 (refl, (refl, (refl, (refl, (refl, tt))))))
      (among old first_5 load_be16 (codes "load_be16") refl new.0 refl) (among old first_5 load_be32 (codes "load_be32") refl new.1.0 refl) (among old first_5 load_be64 (codes "load_be64") refl new.1.1.0 refl)

  pub valid_7 : IsValidAfter (old ++ first_6) (AFunction head_end)
  unfolding load_be16 load_be32 load_be64 head_size head_least head_argument
  valid_7 = end_valid (old ++ first_6) (free_behind old first_6 (codes "head_end") new.1.1.1.1.1.1.0 (refl, (refl, (refl, (refl, (refl, (refl, tt)))))))
      (among old first_6 head_size (codes "head_size") refl new.1.1.1.0 refl) (among old first_6 head_least (codes "head_least") refl new.1.1.1.1.0 refl) (among old first_6 head_argument (codes "head_argument") refl new.1.1.1.1.1.0 refl)

  pub valid_8 : IsValidAfter (old ++ first_7) (AFunction head_within)
  unfolding load_be16 load_be32 load_be64 head_size head_least head_argument head_end
  valid_8 = within_valid (old ++ first_7) (free_behind old first_7 (codes "head_within") new.1.1.1.1.1.1.1.0 (refl, (refl, (refl, (refl, (refl, (refl, (refl, tt))))))))
      (among old first_7 head_end (codes "head_end") refl new.1.1.1.1.1.1.0 refl) (among old first_7 head_argument (codes "head_argument") refl new.1.1.1.1.1.0 refl)

  pub heads_are_there : HeadsAreThere (old ++ head_functions)
  unfolding load_be16 load_be32 load_be64 head_size head_least head_argument head_end head_within
  heads_are_there = record {
    be16 = among old head_functions load_be16 (codes "load_be16") refl new.0 refl;
    be32 = among old head_functions load_be32 (codes "load_be32") refl new.1.0 refl;
    be64 = among old head_functions load_be64 (codes "load_be64") refl new.1.1.0 refl;
    size = among old head_functions head_size (codes "head_size") refl new.1.1.1.0 refl;
    least = among old head_functions head_least (codes "head_least") refl new.1.1.1.1.0 refl;
    argument = among old head_functions head_argument (codes "head_argument") refl new.1.1.1.1.1.0 refl;
    end = among old head_functions head_end (codes "head_end") refl new.1.1.1.1.1.1.0 refl;
    within = among old head_functions head_within (codes "head_within") refl new.1.1.1.1.1.1.1.0 refl;
  }
