-- The copier's name is free behind the functions that write heads, and changes nothing of them.
use Rattle.ecd_rt.proofs.Gathering.{copier_new, writing_is, writer_there, writer_means}
use Rattle.ecd_rt.proofs.base.put_writing.Goals as goal

pub copier-requires : goal.copier-requires
copier-requires c = copier_new c.args.builder.now c.head_writer.new.builder c.in_ok-head_writer.ensures.items c.requires

pub returns-clause-items : goal.returns-clause-items
returns-clause-items c = writing_is c.args.builder.now c.head_writer.new.builder c.in_ok-head_writer.ensures.items c.requires c.copier.new.builder c.in_ok-copier.ensures.items

pub returns-clause-writer_there : goal.returns-clause-writer_there
returns-clause-writer_there c = writer_there c.args.builder.now c.head_writer.new.builder c.in_ok-head_writer.ensures.items c.requires c.copier.new.builder c.in_ok-copier.ensures.items c.in_ok-head_writer.ensures.there

pub returns-clause-writer : goal.returns-clause-writer
returns-clause-writer c = writer_means c.args.builder.now c.head_writer.new.builder c.in_ok-head_writer.ensures.items c.requires c.copier.new.builder c.in_ok-copier.ensures.items c.in_ok-head_writer.ensures.mean
