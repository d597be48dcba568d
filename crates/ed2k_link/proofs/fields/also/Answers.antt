use Rattle.ed2k_link.proofs.Found.{again_once, again_again}
use Rattle.ed2k_link.proofs.fields.also.Goals as goal

pub returns-in-Once : goal.returns-in-Once
returns-in-Once c = λ before h. again_once before _ _ _ _ c.in-Once.is c.in-Some.is h

pub returns-in-Again : goal.returns-in-Again
returns-in-Again c = λ before h. again_again before _ c.args.value c.in-Again.is h
