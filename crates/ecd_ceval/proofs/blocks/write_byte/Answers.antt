use Rattle.std.proofs.Common.{refl}
use Rattle.ecd_ceval.proofs.Writing.{byte_written}
use Rattle.ecd_ceval.proofs.blocks.write_byte.Goals as goal

pub returns-else-at-len : goal.returns-else-at-len
returns-else-at-len c = byte_written c.args.blocks.now c.args.write.block c.args.write.at c.args.write.byte c.index-blocks-block.result c.in-Output.bytes _ c.if-block-blocks.false c.in-Output.is refl
