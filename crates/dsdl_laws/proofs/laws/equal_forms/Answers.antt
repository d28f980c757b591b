-- `laws::equal_forms` meets its contract.
use Rattle.dsdl_laws.proofs.Equal.{same_name, same-nested, one_signature, all-signatures}
use Rattle.dsdl_laws.proofs.laws.equal_forms.Goals as goal

pub returns : goal.returns
returns c = record { name = same_name; nested = same-nested; one = one_signature; all = all-signatures }
