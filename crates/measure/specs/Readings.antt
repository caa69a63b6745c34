-- What is read under a test. Assumes nothing.
use Rattle.std.specs.Prelude.{◌≡◌, Bool, true, cond, Some, None}

-- what passes the test is read
pub read_passes : {W : Type 0} (b : Bool) (x w : W) → b ≡ true → x ≡ w → cond b (Some x) None ≡ Some w
read_passes b x w p q = cc
