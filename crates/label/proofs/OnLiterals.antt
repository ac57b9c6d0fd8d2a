-- What an example unfolds to compute dates and day numbers of literals.
use Rattle.std.specs.Prelude.{⊤}
use Rattle.jiff_core.specs.Calendar.{days_of_years, days_of_months, day_count, days_from_civil}
use Rattle.label.specs.Days.{date_in_year, date_after, date_of}

unfoldable pub dates_on_literals : ⊤
unfolding days_of_years days_of_months day_count days_from_civil date_in_year date_after date_of
dates_on_literals = tt
