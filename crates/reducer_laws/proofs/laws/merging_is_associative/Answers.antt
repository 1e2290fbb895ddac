use Rattle.std.proofs.Common.{◌++◌, append_assoc}
use Rattle.reducer_laws.proofs.laws.merging_is_associative.Goals as goal

pub returns : goal.returns
returns g c = λ r xs ys zs x y z xy yz one other h k l first left second right.
    (left (xs ++ ys) zs (first xs ys h k) l, rw (append_assoc xs ys zs) (right xs (ys ++ zs) h (second ys zs k l)))
