-- Each part finds its names free behind the parts before, and what is put later changes nothing of them.
use Rattle.ecd_rt.specs.Runtime.{front_names, writing_names}
use Rattle.ecd_rt.specs.Trees.{any_names}
use Rattle.std.proofs.Common.{◌++◌}
use Rattle.ecd_rt.proofs.Fresh.{first_names}
use Rattle.ecd_rt.proofs.Gathering.{chain_new, writing_new, runtime_is, runtime_there, runtime_means}
use Rattle.ecd_rt.proofs.runtime.Goals as goal

pub put_front-requires : goal.put_front-requires
put_front-requires c = first_names front_names (any_names c.args.depth ++ writing_names) c.args.builder.now c.requires.new

pub any_chain-requires-clause-new : goal.any_chain-requires-clause-new
any_chain-requires-clause-new c = chain_new c.args.order c.args.depth c.requires.deep c.args.builder.now c.put_front.new.builder c.in_ok-put_front.ensures.items c.requires.new

pub put_writing-requires : goal.put_writing-requires
put_writing-requires c = writing_new c.args.order c.args.depth c.requires.deep c.args.builder.now c.put_front.new.builder c.in_ok-put_front.ensures.items c.requires.new c.any_chain.new.builder c.in_ok-any_chain.ensures.items

pub returns-clause-items : goal.returns-clause-items
returns-clause-items c =
    runtime_is c.args.order c.args.depth c.requires.deep c.args.builder.now c.put_front.new.builder c.in_ok-put_front.ensures.items c.requires.new c.any_chain.new.builder c.in_ok-any_chain.ensures.items c.put_writing.new.builder c.in_ok-put_writing.ensures.items

pub returns-clause-there : goal.returns-clause-there
returns-clause-there c =
    runtime_there c.args.order c.args.depth c.requires.deep c.args.builder.now c.put_front.new.builder c.in_ok-put_front.ensures.items c.requires.new c.any_chain.new.builder c.in_ok-any_chain.ensures.items c.put_writing.new.builder c.in_ok-put_writing.ensures.items
    c.in_ok-put_front.ensures.there c.in_ok-any_chain.ensures.there c.in_ok-put_writing.ensures.writer_there c.in_ok-put_writing.ensures.copier_there

pub returns-clause-mean : goal.returns-clause-mean
returns-clause-mean c =
    runtime_means c.args.order c.args.depth c.requires.deep c.args.builder.now c.put_front.new.builder c.in_ok-put_front.ensures.items c.requires.new c.any_chain.new.builder c.in_ok-any_chain.ensures.items c.put_writing.new.builder c.in_ok-put_writing.ensures.items
    c.in_ok-put_front.ensures.mean (c.in_ok-any_chain.ensures.mean c.args.order c.in_ok-put_front.ensures.mean) c.in_ok-put_writing.ensures.writer c.in_ok-put_writing.ensures.copier
