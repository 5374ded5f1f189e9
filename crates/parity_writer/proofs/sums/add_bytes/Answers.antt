use Rattle.parity_writer.proofs.SumLemmas.{next_bytes}
use Rattle.parity_writer.proofs.sums.add_bytes.Goals as goal

pub returns : goal.returns
returns c = λ row here whole. next_bytes c.args.level row c.args.bytes.now c.args.out.now c.add_column.new.out (λ size. c.no_block.ensures c.args.level size row) (c.add_column.ensures.next_block row here) c.add_column.ensures.added.same_length c.requires.short whole
