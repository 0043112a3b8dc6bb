-- A settings line is cut twice, and its second word is the name.
use Rattle.ll_script.proofs.SettingsLemmas.{not-of_one, not-of_two, second-is}
use Rattle.ll_script.proofs.reading.second_word.Goals as goal

pub returns-in_err-rest : goal.returns-in_err-rest
returns-in_err-rest c = λ cf e. absurd (not-of_one c.args.line.now _ cf c.in_err-rest.ensures.parts e)

pub returns-in_err-name : goal.returns-in_err-name
returns-in_err-name c = λ cf e. absurd (not-of_two c.args.line.now _ _ c.in_ok-rest.rest.now cf c.in_ok-rest.ensures.parts c.in_err-name.ensures.parts e)

pub returns : goal.returns
returns c = λ cf e. second-is c.args.line.now _ c.in_ok-name.name.now c.in_ok-rest.rest.now _ cf c.in_ok-rest.ensures.parts c.in_ok-name.ensures.parts e
