use Rattle.svd_text.proofs.text.split_body.Goals as goal

pub returns-in-None : goal.returns-in-None
returns-in-None c = λ body encoded opens. c.in-None.ensures.exact body opens
