use Rattle.lists.proofs.Digits.{bytes_from_get_or}
use Rattle.blockfile.proofs.Accepted.{accepted_is}
use Rattle.blockfile.proofs.file.check_file.Goals as goal

pub returns : goal.returns
returns g c =
    record {
      answer = c.check_blocks.ensures;
      accepted =
          accepted_is c.args.n g.N.Numbers.readable c.args.code c.args.file.now c.check_blocks.result c.check_blocks.ensures
          (bytes_from_get_or c.args.file.now (λ i. (c.type_inv.file i).fits));
    }
