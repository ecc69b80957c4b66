use Rattle.listed_files.proofs.Areas.{listed_keeps, listing_keeps, released_keeps, releasing_keeps, renewed_keeps, renewing_keeps, turned_back_keeps, turning_back_keeps, unlisted_keeps, unlisting_keeps}
use Rattle.listed_files.proofs.laws.what_a_move_leaves.Goals as goal

pub returns-clause-listed : goal.returns-clause-listed
returns-clause-listed c = λ list node works old new has. listed_keeps list node works old new has

pub returns-clause-listing : goal.returns-clause-listing
returns-clause-listing c = λ list node works old now is. listing_keeps list node works old now is

pub returns-clause-turned_back : goal.returns-clause-turned_back
returns-clause-turned_back c = λ list union listed works old new has. turned_back_keeps list union listed works old new has

pub returns-clause-turning_back : goal.returns-clause-turning_back
returns-clause-turning_back c = λ list union listed works old now is. turning_back_keeps list union listed works old now is

pub returns-clause-unlisted : goal.returns-clause-unlisted
returns-clause-unlisted c = λ list node works old new can has. unlisted_keeps list node works old new can has

pub returns-clause-unlisting : goal.returns-clause-unlisting
returns-clause-unlisting c = λ list node works old now can is. unlisting_keeps list node works old now can is

pub returns-clause-renewed : goal.returns-clause-renewed
returns-clause-renewed c = λ leaving list node old new has. renewed_keeps leaving list node old new has

pub returns-clause-renewing : goal.returns-clause-renewing
returns-clause-renewing c = λ leaving list node old now is. renewing_keeps leaving list node old now is

pub returns-clause-released : goal.returns-clause-released
returns-clause-released c = λ entries places from had names old new q has none out. released_keeps entries places from had names old new q has none out

pub returns-clause-releasing : goal.returns-clause-releasing
returns-clause-releasing c = λ entries places from had names old now q is none out. releasing_keeps entries places from had names old now q is none out
