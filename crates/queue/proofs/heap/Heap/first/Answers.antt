use Rattle.std.proofs.Common.{arith}
use Rattle.queue.proofs.Calls.{first_found, first_none, first_within}
use Rattle.queue.proofs.heap.Heap.first.Goals as goal

pub returns-then-len-eq0 : goal.returns-then-len-eq0
returns-then-len-eq0 g c marks holds =
    first_none g.L.Lane.key g.L.Lane.mark g.met.L.Order.lawful marks c.args.keys.now c.args.self.now.places holds
    c.len.result c.len.ensures c.if-len-eq0.true

pub returns-in_err-row : goal.returns-in_err-row
returns-in_err-row g c marks holds =
    let within = first_within g.L.Lane.key g.L.Lane.mark g.met.L.Order.lawful marks c.args.keys.now c.args.self.now.places holds
    c.len.result c.len.ensures
    c.if-len-eq0.false c.station_at-s.result c.station_at-s.ensures in
    let past = c.in_err-row.ensures.lookup in
    absurd (omega arith)

pub returns : goal.returns
returns g c marks holds =
    first_found g.L.Lane.key g.L.Lane.mark g.met.L.Order.lawful marks c.args.keys.now c.args.self.now.places holds
    c.len.result c.len.ensures c.if-len-eq0.false
    c.station_at-s.result c.station_at-s.ensures c.in_ok-row.row.now c.key_of.result
    c.in_ok-row.ensures.lookup.1 c.key_of.ensures
