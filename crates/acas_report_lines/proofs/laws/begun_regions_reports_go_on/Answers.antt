use Rattle.acas_report_lines.specs.Regions.{IsRulingAt, places, regions_text}
use Rattle.acas_report_lines.specs.Text.{is_certified}
use Rattle.acas_report_lines.proofs.Begun.{goes_on}
use Rattle.acas_report_lines.proofs.laws.begun_regions_reports_go_on.Goals as goal

pub returns : goal.returns
returns c m boxes old new all begun =
    goes_on (IsRulingAt m boxes) is_certified (places boxes) 0 regions_text old new all begun
