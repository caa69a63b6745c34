use Rattle.std.proofs.Common.{rules}
use Rattle.queue.proofs.places.numbered.Goals as goal

pub returns : goal.returns
returns c p within =
    let h = c.from_fn.ensures.items.at p 0 within in
    search rules
