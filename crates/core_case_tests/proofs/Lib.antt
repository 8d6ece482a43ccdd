mod Start
