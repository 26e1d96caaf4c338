use Rattle.flow.proofs.Marks.{reached_tree}
use Rattle.flow.proofs.network.Search.reach.Goals as goal

pub invariant_of-self-clause-tree : goal.invariant_of-self-clause-tree
invariant_of-self-clause-tree c =
    rw (c.head-household.ensures, c.new.ensures, c.mark_from.ensures) (reached_tree c.args.self.now c.args.depth c.args.arc c.requires.there c.requires.leads c.requires.deep)
