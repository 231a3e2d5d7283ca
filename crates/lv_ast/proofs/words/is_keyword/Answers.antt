use Rattle.lv_ast.proofs.words.is_keyword.Goals as goal

pub returns : goal.returns
returns c = c.is_listed.ensures
