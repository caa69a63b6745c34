use Rattle.std.proofs.Common.{◌/◌, length, [], get_or, ap, ◌∙◌, arith}
use Rattle.blockfile.proofs.Chunks.{block_is}
use Rattle.blockfile.proofs.file.block_of.Goals as goal

pub returns : goal.returns
returns c =
    ap (λ blocks. get_or blocks c.args.k []) c.as_chunks.ensures.front ∙ block_is c.args.file.now (length c.args.file.now / 512) c.args.k (omega arith)
