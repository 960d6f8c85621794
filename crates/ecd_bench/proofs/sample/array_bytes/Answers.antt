use Rattle.std.proofs.Common.{◌≡◌, ◌+◌, ◌∷◌, length, refl}
use Rattle.std.specs.Prelude.{vec_len}
use Rattle.std.specs.Int.{w32, to_be_bytes}
use Rattle.ecd_bench.proofs.Arrays.{filled}
use Rattle.ecd_bench.proofs.sample.array_bytes.Goals as goal

pub returns : goal.returns
returns c =
    let front : c.extend_from_slice.new.self.items ≡ 154 ∷ to_be_bytes w32 c.args.count = rw (c.in_ok-extend_from_slice.ensures.items, c.in_ok-push.ensures.items, c.new-bytes.ensures.items, c.to_be_bytes.ensures) refl in
    let held : vec_len c.extend_from_slice.new.self ≡ length c.extend_from_slice.new.self.items = search in
    filled c.args.count c.extend_from_slice.new.self.items c.resize.new.self.items (vec_len c.extend_from_slice.new.self) (5 + c.args.count) c.requires c.ranges.count.fits front held refl c.in_ok-resize.ensures.items
