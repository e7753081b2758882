-- What the records of a file come to, one after the other, and the page at its end. Assumes nothing.
use Rattle.std.specs.Prelude.{cond, ◌||◌, ℕ, ◌+◌, ◌*◌, ◌%◌, eqb, ltb, Result, Ok, Err}
use Rattle.refusal.specs.Fault.{fault_of}
use Rattle.refusal.specs.declared.Reason.TheVariants.{PageEndsOpen, ColumnsNotWholePairs, TooManyLines}
use Rattle.settings.specs.declared.Mode.TheVariants.{Quality}
use Rattle.settings.specs.declared.Paper.TheVariants.{Eleven}
use Rattle.settings.specs.declared.Settings.{Settings}
use Rattle.bitmap.specs.Validity.{most_lines}
use Rattle.records.specs.declared.Stage.{Stage}
use Rattle.records.specs.declared.Stage.TheVariants.{Opening, SetUps, Datas, Closing}
use Rattle.records.specs.Records.{after_set_up}
use Rattle.chain.specs.declared.Image.{Image}
use Rattle.chain.specs.Chain.{blank, open_in}
use Rattle.position.specs.declared.Position.{Position}
use Rattle.position.specs.Position.{columns_before}
use Rattle.reader_progress.specs.declared.FileProgress.{FileProgress}
use Rattle.reader_progress.specs.declared.Page.{Page}
use Rattle.reader_progress.specs.declared.RecordEffect.{RecordEffect}
use Rattle.reader_progress.specs.declared.RecordEffect.TheVariants.{Page as Ends}
use Rattle.refusal.specs.declared.Fault.{Fault}

-- before the first record; the settings that stand here are replaced by those of the first set-up record
abbrev pub first_progress : FileProgress
first_progress = record { stage = Opening; settings = record { mode = Quality; paper = Eleven }; sequence = 0; image = blank }

-- settings come from the first set-up record
abbrev pub first_settings : Stage → Settings → Settings → Settings
first_settings Opening first g = g
first_settings SetUps first g = first
first_settings Datas first g = first
first_settings Closing first g = first

abbrev pub with_set_up : FileProgress → Settings → FileProgress
with_set_up p g = record { stage = after_set_up p.stage; settings = first_settings p.stage p.settings g; sequence = p.sequence; image = p.image }

abbrev pub with_data : FileProgress → Image → FileProgress
with_data p im = record { stage = Datas; settings = p.settings; sequence = (p.sequence + 1) % 4; image = im }

-- the page of a position behind its last column, where the end record is record k
abbrev pub page_ending : FileProgress → Position → ℕ → Page
page_ending p at k = record { octets = 76 * k + 2; lines = 2 * at.pair; settings = p.settings; bits = p.image.bits; columns = record { 0 = columns_before at } }

-- the end record, record k, where a page may have so many lines: 13, 14, 15
unfoldable pub page_at_end_within : ℕ → FileProgress → ℕ → Result RecordEffect Fault
page_at_end_within most p k =
    cond (ltb 0 (open_in p.image.end)) (Err (fault_of PageEndsOpen))
    (cond (ltb 0 p.image.position.column || eqb p.image.position.pair 0) (Err (fault_of ColumnsNotWholePairs))
    (cond (ltb most (2 * p.image.position.pair)) (Err (fault_of TooManyLines))
    (Ok (Ends (page_ending p p.image.position k)))))

abbrev pub page_at_end : FileProgress → ℕ → Result RecordEffect Fault
page_at_end p k = page_at_end_within most_lines p k
