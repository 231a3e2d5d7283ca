use Rattle.lv_late.proofs.SettingLaws.{settings-faultless}
use Rattle.lv_late.proofs.laws.sound_settings_are_faultless.Goals as goal

pub returns : goal.returns
returns c = λ here s settings m f ls i l h. settings-faultless here s settings m f i ls l h
