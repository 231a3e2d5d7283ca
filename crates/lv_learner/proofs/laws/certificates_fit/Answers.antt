use Rattle.lv_learner.proofs.Fitting.{fits_read, rises}
use Rattle.lv_learner.proofs.laws.certificates_fit.Goals as goal

pub returns : goal.returns
returns c = record { read = λ task cert bytes (sets, h, is). fits_read task cert sets h; written = rises }
