-- `laws::white_space` meets its contract.
use Rattle.dsdl_laws.proofs.Spaces.{front, back, between, comment, empty}
use Rattle.dsdl_laws.proofs.Texts.{feed, return, return-feed, last, grammar, service, form, nested}
use Rattle.dsdl_laws.proofs.laws.white_space.Goals as goal

pub returns : goal.returns
returns c =
    record {
      front = front;
      back = back;
      between = between;
      comment = comment;
      empty = empty;
      feed = feed;
      return = return;
      return_feed = return-feed;
      last = last;
      grammar = grammar;
      service = service;
      form = form;
      nested = nested;
    }
