-- `records::front_of` meets its contract. Assumes nothing.
use Rattle.records.proofs.PartLaws.{front_whole, front_none}
use Rattle.records.proofs.front_of.Goals as goal

pub returns-then-count-bytes : goal.returns-then-count-bytes
returns-then-count-bytes c = front_whole c.args.count c.args.bytes.now c.if-count-bytes.true

pub returns-else-count-bytes : goal.returns-else-count-bytes
returns-else-count-bytes c = front_none c.args.count c.args.bytes.now c.if-count-bytes.false
