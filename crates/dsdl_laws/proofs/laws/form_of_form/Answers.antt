-- `laws::form_of_form` meets its contract.
use Rattle.dsdl_laws.proofs.Itself.{grammar, form, service, short}
use Rattle.dsdl_laws.proofs.laws.form_of_form.Goals as goal

pub returns : goal.returns
returns c = record { grammar = grammar; form = form; service = service; short = short }
