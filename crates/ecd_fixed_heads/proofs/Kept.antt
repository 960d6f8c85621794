-- What is appended under other names changes nothing of the functions over heads.
use Rattle.std.proofs.Common.{List, ◌++◌}
use Rattle.std.specs.Prelude.{codes}
use Rattle.std.specs.Int.{w16, w32, w64}
use Rattle.ecd_cast.specs.declared.tree.CItem.{CItem}
use Rattle.ecd_fixed_heads.specs.Firsts.{size_from, least_from}
use Rattle.ecd_fixed_heads.specs.Meanings.{LoadsNumber, OfFirst, HeadArgument, HeadEnd, HeadWithin}
use Rattle.ecd_fixed_heads.specs.Heads.{head_names, load_be16, load_be32, load_be64, head_size, head_least, head_argument, head_end, head_within}
use Rattle.ecd_emit.specs.Among.{AreNew}
use Rattle.ecd_fixed_heads.specs.Standing.{HeadsAreThere, HeadsMean, HeadsAreKept}
use Rattle.ecd_emit.proofs.Kept.{callee_kept, among_kept}

mean_kept : (items more : List CItem) → AreNew head_names more → HeadsMean items → HeadsMean (items ++ more)
mean_kept items more new h = record {
  be16 = callee_kept (LoadsNumber w16 1) items more (codes "load_be16") new.0 h.be16;
  be32 = callee_kept (LoadsNumber w32 5) items more (codes "load_be32") new.1.0 h.be32;
  be64 = callee_kept (LoadsNumber w64 13) items more (codes "load_be64") new.1.1.0 h.be64;
  size = callee_kept (OfFirst size_from 14) items more (codes "head_size") new.1.1.1.0 h.size;
  least = callee_kept (OfFirst least_from 12) items more (codes "head_least") new.1.1.1.1.0 h.least;
  argument = callee_kept HeadArgument items more (codes "head_argument") new.1.1.1.1.1.0 h.argument;
  end = callee_kept HeadEnd items more (codes "head_end") new.1.1.1.1.1.1.0 h.end;
  within = callee_kept HeadWithin items more (codes "head_within") new.1.1.1.1.1.1.1.0 h.within;
}

there_kept : (items more : List CItem) → HeadsAreThere items → HeadsAreThere (items ++ more)
there_kept items more h = record {
  be16 = among_kept load_be16 items more h.be16;
  be32 = among_kept load_be32 items more h.be32;
  be64 = among_kept load_be64 items more h.be64;
  size = among_kept head_size items more h.size;
  least = among_kept head_least items more h.least;
  argument = among_kept head_argument items more h.argument;
  end = among_kept head_end items more h.end;
  within = among_kept head_within items more h.within;
}

pub heads_are_kept : HeadsAreKept
heads_are_kept = record { there = there_kept; mean = mean_kept }
