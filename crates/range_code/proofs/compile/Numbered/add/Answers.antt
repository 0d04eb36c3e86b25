use Rattle.range_code.proofs.DistinctLists.{keys_more, put_new, put_old}
use Rattle.range_code.proofs.compile.Numbered.add.Goals as goal

pub returns-in_ok-push : goal.returns-in_ok-push
returns-in_ok-push c = λ xs n. record {
  slots = put_new xs c.args.self.now.numbers.keys c.args.self.now.slots.items c.push.new.self.items c.args.variable c.in_ok-insert.field-0
      c.in_ok-insert.ensures.added n.numbers c.if-branch.true n.slots c.in_ok-push.ensures.items;
  numbers = keys_more xs c.args.self.now.numbers.keys c.insert.new.self.keys c.args.variable c.in_ok-insert.ensures.keys n.numbers;
}

pub returns-else-branch : goal.returns-else-branch
returns-else-branch c = λ xs n. record {
  slots = put_old xs c.args.self.now.numbers.keys c.args.self.now.slots.items c.args.variable c.in_ok-insert.field-0 c.in_ok-insert.ensures.added n.numbers c.if-branch.false n.slots;
  numbers = keys_more xs c.args.self.now.numbers.keys c.insert.new.self.keys c.args.variable c.in_ok-insert.ensures.keys n.numbers;
}
